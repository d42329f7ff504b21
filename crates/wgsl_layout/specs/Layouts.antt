-- What a layout tells of bytes that hold a value of its type: where the part stands that a view leads to, and what a
-- write in its place makes of the bytes (WGSL: internal layout of values; memory views).
use Rattle.std.specs.Prelude.{◌≡◌, ◌≤◌, false, ℕ, ◌+◌, List, length, Option, Some, None, Ok, Err, Result, ◌==◌, if◌then◌else◌}
use Rattle.wgsl_rules.specs.Layout.{HasLayout, count_in, has_fixed_layout, layout, layout_of, length_in, type_in}
use Rattle.wgsl_rules.specs.Same.{same}
use Rattle.wgsl_rules.specs.Types.{Ty}
use Rattle.wgsl_rules.specs.Values.{Step, Val, type_of}
use Rattle.wgsl_rules.specs.View.{type_view}
use Rattle.wgsl_layout.specs.Buffers.{buffer}
use Rattle.wgsl_layout.specs.Plan.{plan_of, plan_view}
use Rattle.wgsl_layout.specs.Ranges.{Range, overwritten, view_range}
use Rattle.wgsl_layout.specs.declared.layout.Layout.TheInside.{Inside}
use Rattle.wgsl_layout.specs.declared.layout.LayoutRefusal.{LayoutRefusal}
use Rattle.wgsl_layout.specs.declared.layout.LayoutRefusal.TheVariants.{TooFewBytes, NoPart, OtherType, OtherLength}

-- ---- what a layout keeps

abbrev pub type_inside : Inside → Ty
type_inside l = type_view l.ty

-- the type has a layout, and the plan is that of the type
pub record IsLayout (l : Inside) : Type 0 where
  pub laid : HasLayout (type_view l.ty)
  pub planned : plan_view l.plan ≡ plan_of (type_view l.ty)

-- ---- room

-- a value of the type, with n elements in the runtime-sized array that the type is or ends in, finds room in so many
-- bytes
pub record HasRoom (n : ℕ) (t : Ty) (len : ℕ) : Type 0 where
  pub counted : has_fixed_layout t ≡ false → 1 ≤ n
  pub inside : length_in (layout n t) ≤ len

-- ---- answers

-- what a call answers, or why it does not
abbrev pub Answer : Type 0 → Type 0
Answer A = Result A LayoutRefusal

abbrev pub answer_map : {A B : Type 0} → (A → B) → Answer A → Answer B
answer_map f (Ok x) = Ok (f x)
answer_map f (Err e) = Err e

abbrev pub answer_then : {A B : Type 0} → Answer A → (A → Answer B) → Answer B
answer_then (Ok x) f = f x
answer_then (Err e) f = Err e

abbrev pub or_refused : {A : Type 0} → Option A → LayoutRefusal → Answer A
or_refused None e = Err e
or_refused (Some x) e = Ok x

-- ---- parts

-- the range of the part that a view leads to, in so many bytes that hold a value of the type, with as many elements
-- in a runtime-sized array as find room
abbrev pub part_in : ℕ → List Step → Ty → Answer Range
part_in len steps t = answer_then (or_refused (count_in len t) TooFewBytes) (λ n. or_refused (view_range steps (layout n t)) NoPart)

-- from the first byte to behind the last
abbrev pub span_of : Range → ℕ × ℕ
span_of r = (r.start, r.start + length_in r.layout)

-- ---- writes

-- the bytes after the value w has been written in the range, which has its type and its length
abbrev pub written_in : List ℕ → Val → Range → Answer (List ℕ)
written_in b w r =
    if same (type_of w) (type_in r.layout)
    then if length_in (layout_of w) == length_in r.layout then Ok (overwritten b r.start (buffer w)) else Err OtherLength
    else Err OtherType

-- in the place of the part that a view leads to
abbrev pub written : List ℕ → List Step → Ty → Val → Answer (List ℕ)
written b steps t w = answer_then (part_in (length b) steps t) (written_in b w)
