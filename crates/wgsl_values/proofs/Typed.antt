-- The types of values, compared with other types part by part.
use Rattle.std.proofs.Common.{◌≡◌, ◌↔◌, ℕ, ◌<◌, ◌≤◌, List, [], ◌∷◌, length, get_or, Bool, true, false, ◌&&◌, eqb-true, Option, Some, None, IsTrue, refl, sym, ap, ap₂, ◌∙◌, arith}
use Rattle.wgsl_rules.proofs.lemmas.CommonTypes.{struct_part-is}
use Rattle.wgsl_rules.specs.Equal.{same_is}
use Rattle.wgsl_rules.specs.Same.{same, same_space, same_access, same_number}
use Rattle.wgsl_rules.specs.Types.{Ty, bool, array, vec, atomic, ref}
use Rattle.wgsl_rules.specs.TypeParts.{struct_part, array_part}
use Rattle.wgsl_rules.specs.Paths.{parts}
use Rattle.wgsl_rules.specs.Values.{count, type_of, first_type}
use Rattle.wgsl_rules.specs.declared.syntax.AddressSpace.{AddressSpace}
use Rattle.wgsl_rules.specs.declared.syntax.AccessMode.{AccessMode}
use Rattle.wgsl_values.specs.View.{value_of, vals_view, array_view}
use Rattle.wgsl_values.specs.declared.instance.Instance.{Instance}
use Rattle.wgsl_values.specs.declared.array.ArrayInstance.{ArrayInstance}
use Rattle.wgsl_values.proofs.lemmas.Views.{array_view-is, count-vals_view}

-- ---- tests one after the other

pub all_true : (a b z x : Bool) → a ≡ true → b ≡ true → x ≡ z → x ≡ (a && (b && z))
all_true a b z x p q e = rw (p, q) e

pub first_false : (a y x : Bool) → a ≡ false → x ≡ false → x ≡ (a && y)
first_false a y x p e = rw p e

pub second_false : (a b z x : Bool) → b ≡ false → x ≡ false → x ≡ (a && (b && z))
second_false true b z x p e = rw p e
second_false false b z x p e = e

-- ---- types

pub type-same : (s t : Ty) (b : Bool) → b ≡ same s t → IsTrue b ↔ (s ≡ t)
type-same s t b e = rw e (same_is s t)

pub atomic-same : (s t : Ty) (b : Bool) → b ≡ same s t → IsTrue b ↔ (atomic s ≡ atomic t)
atomic-same s t b e = rw e (same_is (atomic s) (atomic t))

pub ref-same : (s z : AddressSpace) (t u : Ty) (a b : AccessMode) (x : Bool) → x ≡ (same_space s z && (same t u && same_access a b)) → IsTrue x ↔ (ref s t a ≡ ref z u b)
ref-same s z t u a b x e = rw e (same_is (ref s t a) (ref z u b))

pub struct-has : (s t u : Ty) (b : Bool) → Some t ≡ struct_part u → b ≡ same s t → IsTrue b ↔ (s ≡ u)
struct-has s t u b part e = rw (← struct_part-is u t part) (type-same s t b e)

pub vec-has : (w s t : Ty) (m n : ℕ) (b : Bool) → w ≡ vec m s → m ≡ n → b ≡ same s t → IsTrue b ↔ (w ≡ vec n t)
vec-has w s t m n b is e h = (
  (λ k. is ∙ ap₂ vec e ((same_is s t).0 (sym h ∙ k))),
  (λ k. let p : s ≡ t = cc in h ∙ (same_is s t).1 p),
)

-- ---- arrays

same_count : (m n : Option ℕ) → true ≡ same_number m n → m ≡ n
same_count None None e = refl
same_count None (Some n) e = cc
same_count (Some m) None e = cc
same_count (Some m) (Some n) e = ap Some (eqb-true m n (sym e))

abbrev array_from : Option (Ty × Option ℕ) → Ty
array_from (Some p) = array p.0 p.1
array_from None = bool

pub array_part-is : (u t : Ty) (n : Option ℕ) → Some (t, n) ≡ array_part u → array t n ≡ u
array_part-is (array v m) t n e = ap array_from e
array_part-is u t n e = cc

pub first_type-at : (vs : List Instance) (d : Instance) → 1 ≤ length vs → first_type (vals_view vs) ≡ type_of (value_of (get_or vs 0 d))
first_type-at [] d l = absurd (omega arith)
first_type-at (v ∷ vs) d l = refl

pub array-first : (a : ArrayInstance) (x : Instance) → 0 < count (vals_view a.components.items) → x ≡ get_or a.components.items 0 x → first_type (parts (array_view a)) ≡ type_of (value_of x)
array-first a x filled first =
    let some : 1 ≤ length a.components.items = omega (arith, count-vals_view a.components.items) in
    rw (array_view-is a) (first_type-at a.components.items x some ∙ ap (λ (y : Instance). type_of (value_of y)) (sym first))

pub array-has : (a : ArrayInstance) (x : Instance) (u t : Ty) (n m : Option ℕ) (b : Bool) → 0 < count (vals_view a.components.items) → x ≡ get_or a.components.items 0 x
    → Some (t, n) ≡ array_part u → type_of (array_view a) ≡ array (first_type (parts (array_view a))) m → true ≡ same_number m n
    → (IsTrue b ↔ (type_of (value_of x) ≡ t)) → IsTrue b ↔ (type_of (array_view a) ≡ u)
array-has a x u t n m b filled first part is counted inner =
    let whole = is ∙ ap₂ array (array-first a x filled first) (same_count m n counted) in
    let asked = array_part-is u t n part in (
      (λ k. whole ∙ ap (λ s. array s n) (inner.0 k) ∙ asked),
      (λ k. let e : array (type_of (value_of x)) n ≡ array t n = sym whole ∙ k ∙ sym asked in let p : type_of (value_of x) ≡ t = cc in inner.1 p),
    )
