-- A value with another of its type in the place of a part is storable again, and of the type it had.
use Rattle.std.proofs.Common.{◌≡◌, ℕ, zero, suc, ◌<◌, ◌≤◌, Bool, true, false, List, [], ◌∷◌, Option, Some, None, option_and_then, refl, sym, ap, ◌∙◌, subst}
use Rattle.wgsl_rules.proofs.lemmas.Converted.{storable-well_formed}
use Rattle.wgsl_rules.specs.Kinds as kinds
use Rattle.wgsl_rules.specs.Kinds.{Kind}
use Rattle.wgsl_rules.specs.Types as types
use Rattle.wgsl_rules.specs.Types.{Ty, Fields, no_fields, field}
use Rattle.wgsl_rules.specs.Values.{Val, truth, number, record_of, array_of, vector, matrix, atomic_of, pointer, reference, deferred, Vals, no_vals, val, count, item, type_of, type_of_kind, first_type, array_type, matrix_type, AllOfType, HaveTypes, AreMembers, IsLiteral, AreLiterals, IsVector, AreVectors, IsAtomicContent, IsStorable, AreStorable, IsWellFormed}
use Rattle.wgsl_rules.specs.Paths.{parts, value_at, replace_item, put_tree}
use Rattle.wgsl_values.specs.Written.{APartReplacedIsStorable, IsAsSound, IsKept, IsReplaced, with_part}
use Rattle.wgsl_values.proofs.lemmas.Steps.{item-storable, parts-storable, put_tree-step}

-- ---- lists with an item replaced by one of its type

count-replaced : (i : ℕ) (w : Val) (vs : Vals) → count (replace_item i (λ _. w) vs) ≡ count vs
count-replaced i w no_vals = refl
count-replaced zero w (val v vs) = refl
count-replaced (suc i) w (val v vs) = ap suc (count-replaced i w vs)

first_type-replaced : (i : ℕ) (w x : Val) (vs : Vals) → item i vs ≡ Some x → type_of w ≡ type_of x → first_type (replace_item i (λ _. w) vs) ≡ first_type vs
first_type-replaced i w x no_vals e t = refl
first_type-replaced zero w x (val v vs) e t = let same : v ≡ x = cc in t ∙ ap type_of (sym same)
first_type-replaced (suc i) w x (val v vs) e t = refl

all-replaced : (i : ℕ) (w x : Val) (u : Ty) (vs : Vals) → item i vs ≡ Some x → type_of w ≡ type_of x → AllOfType u vs → AllOfType u (replace_item i (λ _. w) vs)
all-replaced i w x u no_vals e t h = h
all-replaced zero w x u (val v vs) e t h = let same : v ≡ x = cc in (t ∙ ap type_of (sym same) ∙ h.0, h.1)
all-replaced (suc i) w x u (val v vs) e t h = (h.0, all-replaced i w x u vs e t h.1)

members-replaced : (i : ℕ) (w x : Val) (fs : Fields) (vs : Vals) → item i vs ≡ Some x → type_of w ≡ type_of x → HaveTypes fs vs → HaveTypes fs (replace_item i (λ _. w) vs)
members-replaced i w x no_fields no_vals e t h = h
members-replaced i w x (field n u s a fs) no_vals e t h = h
members-replaced i w x no_fields (val v vs) e t h = absurd h
members-replaced zero w x (field n u s a fs) (val v vs) e t h = let same : v ≡ x = cc in (t ∙ ap type_of (sym same) ∙ h.0, h.1)
members-replaced (suc i) w x (field n u s a fs) (val v vs) e t h = (h.0, members-replaced i w x fs vs e t h.1)

are_members-replaced : (i : ℕ) (w x : Val) (u : Ty) (vs : Vals) → item i vs ≡ Some x → type_of w ≡ type_of x → AreMembers u vs → AreMembers u (replace_item i (λ _. w) vs)
are_members-replaced i w x (types.struct n fs) vs e t h = members-replaced i w x fs vs e t h
are_members-replaced i w x u vs e t h = absurd h

storable-replaced : (i : ℕ) (w : Val) (vs : Vals) → IsStorable w → AreStorable vs → AreStorable (replace_item i (λ _. w) vs)
storable-replaced i w no_vals s h = h
storable-replaced zero w (val v vs) s h = (s, h.1)
storable-replaced (suc i) w (val v vs) s h = (h.0, storable-replaced i w vs s h.1)

-- ---- values of the type of a literal are literals, and of a vector vectors

-- the types of literals
abbrev IsLiteralType : Ty → Type 0
IsLiteralType types.bool = Unit {0}
IsLiteralType types.abstract_int = Unit {0}
IsLiteralType types.i32 = Unit {0}
IsLiteralType types.u32 = Unit {0}
IsLiteralType types.i64 = Unit {0}
IsLiteralType types.u64 = Unit {0}
IsLiteralType t = ⊥

literal-type : (v : Val) → IsLiteral v → IsLiteralType (type_of v)
literal-type (truth b) h = tt
literal-type (number kinds.abstract_int z) h = tt
literal-type (number kinds.i32 z) h = tt
literal-type (number kinds.u32 z) h = tt
literal-type (number kinds.i64 z) h = tt
literal-type (number kinds.u64 z) h = tt
literal-type v h = absurd h

no-struct : (t : Ty) (vs : Vals) → AreMembers t vs → IsLiteralType t → ⊥
no-struct (types.struct n fs) vs h l = l
no-struct t vs h l = h

no-array : (runtime : Bool) (t : Ty) (n : ℕ) → IsLiteralType (array_type runtime t n) → ⊥
no-array true t n l = l
no-array false t n l = l

no-matrix : (n : ℕ) (t : Ty) → IsLiteralType (matrix_type n t) → ⊥
no-matrix n (types.vec r t) l = l
no-matrix n t l = l

of_literal_type : (v : Val) → IsStorable v → IsLiteralType (type_of v) → IsLiteral v
of_literal_type (truth b) s l = tt
of_literal_type (number k z) s l = tt
of_literal_type (record_of t vs) s l = absurd (no-struct t vs s.0 l)
of_literal_type (array_of runtime vs) s l = absurd (no-array runtime (first_type vs) (count vs) l)
of_literal_type (vector vs) s l = absurd l
of_literal_type (matrix vs) s l = absurd (no-matrix (count vs) (first_type vs) l)
of_literal_type (atomic_of v) s l = absurd l
of_literal_type (pointer r) s l = absurd l
of_literal_type (reference r) s l = absurd l
of_literal_type (deferred t) s l = absurd s

literals-replaced : (i : ℕ) (w x : Val) (vs : Vals) → item i vs ≡ Some x → type_of w ≡ type_of x → IsStorable w → AreLiterals vs → AreLiterals (replace_item i (λ _. w) vs)
literals-replaced i w x no_vals e t s h = h
literals-replaced zero w x (val v vs) e t s h =
    let same : v ≡ x = cc in
    (of_literal_type w s (subst IsLiteralType (ap type_of same ∙ sym t) (literal-type v h.0)), h.1)
literals-replaced (suc i) w x (val v vs) e t s h = (h.0, literals-replaced i w x vs e t s h.1)

abbrev IsVectorType : Ty → Type 0
IsVectorType (types.vec n t) = Unit {0}
IsVectorType t = ⊥

vector-type : (v : Val) → IsVector v → IsVectorType (type_of v)
vector-type (vector vs) h = tt
vector-type v h = absurd h

kind-no-vector : (k : Kind) → IsVectorType (type_of_kind k) → ⊥
kind-no-vector kinds.abstract_int h = h
kind-no-vector kinds.i32 h = h
kind-no-vector kinds.u32 h = h
kind-no-vector kinds.i64 h = h
kind-no-vector kinds.u64 h = h

struct-no-vector : (t : Ty) (vs : Vals) → AreMembers t vs → IsVectorType t → ⊥
struct-no-vector (types.struct n fs) vs h l = l
struct-no-vector t vs h l = h

array-no-vector : (runtime : Bool) (t : Ty) (n : ℕ) → IsVectorType (array_type runtime t n) → ⊥
array-no-vector true t n l = l
array-no-vector false t n l = l

matrix-no-vector : (n : ℕ) (t : Ty) → IsVectorType (matrix_type n t) → ⊥
matrix-no-vector n (types.vec r t) l = l
matrix-no-vector n t l = l

of_vector_type : (v : Val) → IsStorable v → IsVectorType (type_of v) → IsVector v
of_vector_type (truth b) s l = absurd l
of_vector_type (number k z) s l = absurd (kind-no-vector k l)
of_vector_type (record_of t vs) s l = absurd (struct-no-vector t vs s.0 l)
of_vector_type (array_of runtime vs) s l = absurd (array-no-vector runtime (first_type vs) (count vs) l)
of_vector_type (vector vs) s l = tt
of_vector_type (matrix vs) s l = absurd (matrix-no-vector (count vs) (first_type vs) l)
of_vector_type (atomic_of v) s l = absurd l
of_vector_type (pointer r) s l = absurd l
of_vector_type (reference r) s l = absurd l
of_vector_type (deferred t) s l = absurd s

vectors-replaced : (i : ℕ) (w x : Val) (vs : Vals) → item i vs ≡ Some x → type_of w ≡ type_of x → IsStorable w → AreVectors vs → AreVectors (replace_item i (λ _. w) vs)
vectors-replaced i w x no_vals e t s h = h
vectors-replaced zero w x (val v vs) e t s h =
    let same : v ≡ x = cc in
    (of_vector_type w s (subst IsVectorType (ap type_of same ∙ sym t) (vector-type v h.0)), h.1)
vectors-replaced (suc i) w x (val v vs) e t s h = (h.0, vectors-replaced i w x vs e t s h.1)

-- ---- a part replaced by another of its type

-- a whole is of the type that it was of
one-typed : (i : ℕ) (v w x : Val) → item i (parts v) ≡ Some x → type_of w ≡ type_of x → type_of (with_part i w v) ≡ type_of v
one-typed i (record_of u vs) w x e t = refl
one-typed i (array_of runtime vs) w x e t = rw (count-replaced i w vs, first_type-replaced i w x vs e t) refl
one-typed i (vector vs) w x e t = rw (count-replaced i w vs, first_type-replaced i w x vs e t) refl
one-typed i (matrix vs) w x e t = rw (count-replaced i w vs, first_type-replaced i w x vs e t) refl
one-typed i v w x e t = absurd (cc)

one-replaced : (i : ℕ) (v w x : Val) → item i (parts v) ≡ Some x → IsStorable v → IsStorable w → type_of w ≡ type_of x → IsReplaced (with_part i w v) v
one-replaced i (record_of u vs) w x e h s t = record {
  storable = (are_members-replaced i w x u vs e t h.0, storable-replaced i w vs s h.1);
  ty = refl;
}
one-replaced i (array_of runtime vs) w x e h s t =
    let counted = count-replaced i w vs in
    let first = first_type-replaced i w x vs e t in
    record {
      storable = (subst (λ n. 0 < n) (sym counted) h.0, subst (λ (u : Ty). AllOfType u (replace_item i (λ _. w) vs)) (sym first) (all-replaced i w x (first_type vs) vs e t h.1), storable-replaced i w vs s h.2);
      ty = one-typed i (array_of runtime vs) w x e t;
    }
one-replaced i (vector vs) w x e h s t =
    let counted = count-replaced i w vs in
    let first = first_type-replaced i w x vs e t in
    record {
      storable = (subst (λ n. 2 ≤ n) (sym counted) h.0, subst (λ n. n ≤ 4) (sym counted) h.1, literals-replaced i w x vs e t s h.2, subst (λ (u : Ty). AllOfType u (replace_item i (λ _. w) vs)) (sym first) (all-replaced i w x (first_type vs) vs e t h.3), storable-replaced i w vs s h.4);
      ty = one-typed i (vector vs) w x e t;
    }
one-replaced i (matrix vs) w x e h s t =
    let counted = count-replaced i w vs in
    let first = first_type-replaced i w x vs e t in
    record {
      storable = (subst (λ n. 2 ≤ n) (sym counted) h.0, subst (λ n. n ≤ 4) (sym counted) h.1, vectors-replaced i w x vs e t s h.2, subst (λ (u : Ty). AllOfType u (replace_item i (λ _. w) vs)) (sym first) (all-replaced i w x (first_type vs) vs e t h.3), storable-replaced i w vs s h.4);
      ty = one-typed i (matrix vs) w x e t;
    }
one-replaced i v w x e h s t = absurd (cc)

-- a part replaced behind a first step, where it is so in the part that the step leads to
replaced-behind : (i : ℕ) (p : List ℕ) (v w x : Val) → ((y : Val) → IsStorable y → value_at p y ≡ Some x → IsReplaced (put_tree p w y) y) → IsStorable v → (o : Option Val)
    → option_and_then (value_at p) o ≡ Some x → item i (parts v) ≡ o → IsReplaced (put_tree (i ∷ p) w v) v
replaced-behind i p v w x again h None f is = absurd (cc)
replaced-behind i p v w x again h (Some y) f is =
    let inner = again y (item-storable i (parts v) y (parts-storable v h) is) f in
    rw (put_tree-step i p w v y is) (one-replaced i v (put_tree p w y) y is h inner.storable inner.ty)

pub a_part_replaced : APartReplacedIsStorable
a_part_replaced [] v w x h e s t = let same : v ≡ x = cc in record { storable = s; ty = t ∙ ap type_of (sym same) }
a_part_replaced (i ∷ p) v w x h e s t = replaced-behind i p v w x (λ y k f. a_part_replaced p y w x k f s t) h (item i (parts v)) e refl

-- ---- what is lent to be written, and the whole after that

-- what has a part is well-formed as it is storable
whole-storable : (p : List ℕ) (i : ℕ) (v x : Val) → value_at (i ∷ p) v ≡ Some x → IsWellFormed v → IsStorable v
whole-storable p i (deferred t) x e h = absurd (cc)
whole-storable p i v x e h = h

typed-behind : (i : ℕ) (p : List ℕ) (v w x : Val) → ((y : Val) → value_at p y ≡ Some x → type_of (put_tree p w y) ≡ type_of y)
    → (o : Option Val) → option_and_then (value_at p) o ≡ Some x → item i (parts v) ≡ o → type_of (put_tree (i ∷ p) w v) ≡ type_of v
typed-behind i p v w x again None f is = absurd (cc)
typed-behind i p v w x again (Some y) f is = rw (put_tree-step i p w v y is) (one-typed i v (put_tree p w y) y is (again y f))

-- a value with another of the part's type in its place is of the type that it was of
pub put-type : (p : List ℕ) (w v x : Val) → value_at p v ≡ Some x → type_of w ≡ type_of x → type_of (put_tree p w v) ≡ type_of v
put-type [] w v x e t = let same : v ≡ x = cc in t ∙ ap type_of (sym same)
put-type (i ∷ p) w v x e t = typed-behind i p v w x (λ y f. put-type p w y x f t) (item i (parts v)) e refl

-- and what it was else, where the other may be stored
pub part-kept : (p : List ℕ) (v w x : Val) → value_at p v ≡ Some x → IsStorable w → type_of w ≡ type_of x → IsKept (put_tree p w v) v
part-kept [] v w x e s t = record {
  well_formed = λ h. storable-well_formed w s;
  storable = λ h. s;
  ty = put-type [] w v x e t;
}
part-kept (i ∷ p) v w x e s t = record {
  well_formed = λ h. storable-well_formed (put_tree (i ∷ p) w v) (a_part_replaced (i ∷ p) v w x (whole-storable p i v x e h) e s t).storable;
  storable = λ h. (a_part_replaced (i ∷ p) v w x h e s t).storable;
  ty = put-type (i ∷ p) w v x e t;
}

storable-behind : (p : List ℕ) (x : Val) (o : Option Val) → ((y : Val) → value_at p y ≡ Some x → IsStorable y → IsStorable x) → ((y : Val) → o ≡ Some y → IsStorable y)
    → option_and_then (value_at p) o ≡ Some x → IsStorable x
storable-behind p x None again h e = absurd (cc)
storable-behind p x (Some y) again h e = again y e (h y refl)

pub part-storable : (p : List ℕ) (v x : Val) → IsStorable v → value_at p v ≡ Some x → IsStorable x
part-storable [] v x h e = let same : v ≡ x = cc in subst IsStorable same h
part-storable (i ∷ p) v x h e = storable-behind p x (item i (parts v)) (λ y f k. part-storable p y x k f) (λ y is. item-storable i (parts v) y (parts-storable v h) is) e

-- a part is as sound as the whole
pub part-sound : (p : List ℕ) (v x : Val) → value_at p v ≡ Some x → IsAsSound x v
part-sound [] v x e = let same : v ≡ x = cc in record { well_formed = λ h. subst IsWellFormed same h; storable = λ h. part-storable [] v x h e }
part-sound (i ∷ p) v x e = record {
  well_formed = λ h. storable-well_formed x (part-storable (i ∷ p) v x (whole-storable p i v x e h) e);
  storable = λ h. part-storable (i ∷ p) v x h e;
}

-- ---- what an atomic holds

-- the types of what an atomic may hold
abbrev IsAtomicType : Ty → Type 0
IsAtomicType types.i32 = Unit {0}
IsAtomicType types.u32 = Unit {0}
IsAtomicType t = ⊥

content-type : (v : Val) → IsAtomicContent v → IsAtomicType (type_of v)
content-type (number kinds.i32 z) h = tt
content-type (number kinds.u32 z) h = tt
content-type v h = absurd h

struct-no-content : (t : Ty) (vs : Vals) → AreMembers t vs → IsAtomicType t → ⊥
struct-no-content (types.struct n fs) vs h l = l
struct-no-content t vs h l = h

array-no-content : (runtime : Bool) (t : Ty) (n : ℕ) → IsAtomicType (array_type runtime t n) → ⊥
array-no-content true t n l = l
array-no-content false t n l = l

matrix-no-content : (n : ℕ) (t : Ty) → IsAtomicType (matrix_type n t) → ⊥
matrix-no-content n (types.vec r t) l = l
matrix-no-content n t l = l

of_atomic_type : (v : Val) → IsStorable v → IsAtomicType (type_of v) → IsAtomicContent v
of_atomic_type (truth b) s l = absurd l
of_atomic_type (number kinds.abstract_int z) s l = absurd l
of_atomic_type (number kinds.i32 z) s l = tt
of_atomic_type (number kinds.u32 z) s l = tt
of_atomic_type (number kinds.i64 z) s l = absurd l
of_atomic_type (number kinds.u64 z) s l = absurd l
of_atomic_type (record_of t vs) s l = absurd (struct-no-content t vs s.0 l)
of_atomic_type (array_of runtime vs) s l = absurd (array-no-content runtime (first_type vs) (count vs) l)
of_atomic_type (vector vs) s l = absurd l
of_atomic_type (matrix vs) s l = absurd (matrix-no-content (count vs) (first_type vs) l)
of_atomic_type (atomic_of v) s l = absurd l
of_atomic_type (pointer r) s l = absurd l
of_atomic_type (reference r) s l = absurd l
of_atomic_type (deferred t) s l = absurd s

pub content-kept : (w x : Val) → IsStorable w → type_of w ≡ type_of x → IsKept (atomic_of w) (atomic_of x)
content-kept w x s t =
    let kept : IsStorable (atomic_of x) → IsStorable (atomic_of w) = λ h. (of_atomic_type w s (subst IsAtomicType (sym t) (content-type x h.0)), s) in
    record { well_formed = kept; storable = kept; ty = ap types.atomic t }

pub content-sound : (x : Val) → IsAsSound x (atomic_of x)
content-sound x = record { well_formed = λ h. storable-well_formed x h.1; storable = λ h. h.1 }
