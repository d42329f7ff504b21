-- Arguments of one type: nothing is converted.
use Rattle.std.proofs.Common.{◌≡◌, ◌∙◌, [], ◌∷◌, true, Some, Ok, refl, sym, ap, ap₂}
use Rattle.wgsl_rules.proofs.lemmas.Converted.{converted-own}
use Rattle.wgsl_rules.specs.Conversion.{common_type_of}
use Rattle.wgsl_rules.specs.Converted.{converted}
use Rattle.wgsl_rules.specs.Paths.{parts}
use Rattle.wgsl_rules.specs.Refusals.{Outcome, and_then, builtin}
use Rattle.wgsl_rules.specs.Types.{Ty, vec}
use Rattle.wgsl_rules.specs.Values.{Val, count, item, type_of, first_type, IsWellFormed}
use Rattle.wgsl_scalar.specs.Operands.{ok_or}
use Rattle.wgsl_values.proofs.lemmas.Views.{vec_view-is}
use Rattle.wgsl_values.specs.View.{vals_view, vec_view}
use Rattle.wgsl_values.specs.declared.vector.VecInstance.{VecInstance}
use Rattle.wgsl_value_builtins.specs.Lifts.{in_common_type}
use Rattle.wgsl_value_builtins.specs.Logical.{is_known, selected_by, selected}
use Rattle.wgsl_value_builtins.specs.Numeric.{between, clamped_in, clamped}
use Rattle.wgsl_value_ops.proofs.OwnTypes.{first-typed, own-common}

-- ---- vectors of one type

vector-type : (v : VecInstance) (x : Val) → Some x ≡ item 0 (parts (vec_view v)) → type_of (vec_view v) ≡ vec (count (parts (vec_view v))) (type_of x)
vector-type v x h =
    let k = vec_view-is v in
    let first : type_of x ≡ first_type (vals_view v.components.items) = first-typed (vals_view v.components.items) x (rw k at h) in
    rw (k, first) refl

-- two vectors are of one type where they have as many components, and the first ones are of one type
pub vectors_typed : (v w : VecInstance) (x y : Val) → Some x ≡ item 0 (parts (vec_view v)) → Some y ≡ item 0 (parts (vec_view w)) → count (parts (vec_view v)) ≡ count (parts (vec_view w)) → type_of x ≡ type_of y
    → type_of (vec_view v) ≡ type_of (vec_view w)
vectors_typed v w x y h k n e = vector-type v x h ∙ ap₂ vec n e ∙ sym (vector-type w y k)

-- ---- conversions that change nothing

pub in-own : (v w : Val) → IsWellFormed v → IsWellFormed w → type_of v ≡ type_of w → in_common_type v w ≡ Ok (v, w)
in-own v w k l e =
    let first : converted v (type_of w) ≡ Some v = rw (← e) (converted-own v k) in
    rw (e, own-common (type_of w), first, converted-own w l) refl

common-own : (t : Ty) → common_type_of (t ∷ t ∷ t ∷ []) ≡ Some t
common-own t = rw (own-common t, own-common t) refl

-- three values of one type are limited as they are
pub clamped-own : (u v w : Val) → IsWellFormed u → IsWellFormed v → IsWellFormed w → type_of u ≡ type_of v → type_of v ≡ type_of w → clamped u v w ≡ between u v w
clamped-own u v w h k l e f =
    let t = type_of w in
    let common : common_type_of (type_of u ∷ type_of v ∷ type_of w ∷ []) ≡ Some t = rw (e ∙ f, f) (common-own t) in
    let first : converted u t ≡ Some u = rw (← (e ∙ f)) (converted-own u h) in
    let second : converted v t ≡ Some v = rw (← f) (converted-own v k) in
    ap (λ (o : Outcome Ty). and_then o (λ s. clamped_in s u v w)) (ap (ok_or builtin) common) ∙ rw (first, second, converted-own w l) refl

-- one of two values of one type is chosen as it is
pub selected-own : (v w c : Val) → is_known v ≡ true → is_known w ≡ true → IsWellFormed v → IsWellFormed w → type_of v ≡ type_of w → selected v w c ≡ selected_by c v w
selected-own v w c k l h g e = rw (k, l, in-own v w h g e) refl
