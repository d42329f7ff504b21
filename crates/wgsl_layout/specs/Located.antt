-- A part of a value of a type that has a layout, as the type alone tells it (WGSL: internal layout of values).
use Rattle.std.specs.Prelude.{◌≡◌, ℕ, suc, Bool, true, false, Option, option_map, option_and_then}
use Rattle.wgsl_rules.specs.Types.{Ty, array, vec, mat}
use Rattle.wgsl_rules.specs.Values.{Step}
use Rattle.wgsl_rules.specs.View.{type_view}
use Rattle.wgsl_rules.specs.Layout.{Parts, no_parts, part, layout}
use Rattle.wgsl_layout.specs.Plan.{Plan, scalar, plan_view}
use Rattle.wgsl_layout.specs.Ranges.{Range, further, part_at, parts_in, step_in}
use Rattle.wgsl_layout.specs.Reading.{IsThere}
use Rattle.wgsl_layout.specs.declared.located.Located.{Located}
use Rattle.wgsl_layout.specs.declared.located.Shape.{Shape}
use Rattle.wgsl_layout.specs.declared.located.Shape.TheVariants as shapes

-- the type of the part
abbrev pub shape_ty : Shape → Ty
shape_ty (shapes.Whole t p) = type_view t.now
shape_ty (shapes.Column n t p) = vec n (type_view t.now)
shape_ty (shapes.Component t) = type_view t.now

-- where its own parts stand
abbrev pub shape_plan : Shape → Plan
shape_plan (shapes.Whole t p) = plan_view p.now
shape_plan (shapes.Column n t p) = plan_view p.now
shape_plan (shapes.Component t) = scalar

-- where it stands in the bytes of the whole, and its layout
abbrev pub part_range : Located → Range
part_range l = record { start = l.start; layout = layout l.count (shape_ty l.shape) }

-- a value of the type stands there in so many bytes, and the plan is that of the type
abbrev pub IsLocated : Located → Type 0
IsLocated l = IsThere l.count (shape_ty l.shape) (shape_plan l.shape) l.start l.len

-- a part of a part stands in the same whole
pub record IsInside (outer inner : Located) : Type 0 where
  pub there : IsLocated inner
  pub len : inner.len ≡ outer.len
  pub count : inner.count ≡ outer.count

-- the range one step deeper than a value of the type t that begins at `start`, with n elements in the runtime-sized
-- array that the whole is or ends in
abbrev pub range_behind : Step → ℕ → Ty → ℕ → Option Range
range_behind s n t start = option_and_then (λ i. option_map (further start) (part_at i (parts_in (layout n t)))) (step_in s t)

-- the range one step deeper than a part
abbrev pub step_range : Step → Located → Option Range
step_range s l = range_behind s l.count (shape_ty l.shape) l.start

-- how many parts there are
abbrev pub number_of_parts : Parts → ℕ
number_of_parts no_parts = 0
number_of_parts (part from l ps) = suc (number_of_parts ps)

-- the parts of arrays, vectors and matrices have indices
abbrev pub is_indexable : Ty → Bool
is_indexable (array t n) = true
is_indexable (vec n t) = true
is_indexable (mat c r t) = true
is_indexable t = false
