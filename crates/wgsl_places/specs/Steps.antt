-- Where a step of a view leads in a type: the position of the part, and its type (WGSL: composite value decomposition
-- expressions).
use Rattle.std.specs.Prelude.{ℕ, zero, suc, Option, Some, None, option_and_then, option_map}
use Rattle.wgsl_rules.specs.Types.{Ty, struct, array, vec, mat, Fields, no_fields, field}
use Rattle.wgsl_rules.specs.Values.{Step}
use Rattle.wgsl_rules.specs.View.{type_view}
use Rattle.wgsl_layout.specs.Ranges.{step_in}
use Rattle.wgsl_places.specs.declared.shape.Shape.{Shape}
use Rattle.wgsl_places.specs.declared.shape.Shape.TheVariants as shapes

abbrev pub field_at : ℕ → Fields → Option Ty
field_at i no_fields = None
field_at zero (field name t s a fs) = Some t
field_at (suc i) (field name t s a fs) = field_at i fs

-- the type of the part of the position; how many elements, components or columns there are is not looked at
abbrev pub type_at : ℕ → Ty → Option Ty
type_at i (struct name fs) = field_at i fs
type_at i (array t n) = Some t
type_at i (vec n t) = Some t
type_at i (mat c r t) = Some (vec r t)
type_at i t = None

abbrev pub step_to : Step → Ty → Option (ℕ × Ty)
step_to s t = option_and_then (λ i. option_map (λ u. (i, u)) (type_at i t)) (step_in s t)

-- the type that the code has of a part
abbrev pub shape_ty : Shape → Ty
shape_ty (shapes.Whole t) = type_view t.now
shape_ty (shapes.Column n t) = vec n (type_view t.now)
