-- Values made of others: when the parts are as the whole asks.
use Rattle.std.proofs.Common.{◌≡◌, ◌↔◌, ℕ, zero, suc, ◌+◌, ◌<◌, ◌≤◌, List, [], ◌∷◌, length, get_or, drop, take, map, Bool, true, false, IsTrue, is_some, refl, sym, ap, ap₂, subst, ◌∙◌, arith, ◌==◌, add-one}
use Rattle.std.proofs.lemmas.Bool.{false≢true}
use Rattle.wgsl_rules.specs.Kinds as kinds
use Rattle.wgsl_rules.specs.Types as types
use Rattle.wgsl_rules.specs.Types.{Ty}
use Rattle.wgsl_rules.specs.TypeParts.{vec_part}
use Rattle.wgsl_rules.specs.Values.{Val, truth, number, record_of, array_of, vector, matrix, deferred, Vals, no_vals, val, count, IsStorable, AreStorable, AllOfType, HaveTypes, IsLiteral, AreLiterals, IsVector, AreVectors, type_of, first_type, matrix_type}
use Rattle.wgsl_rules.specs.View.{members_view, type_view}
use Rattle.wgsl_rules.specs.declared.ty.StructMemberType.{StructMemberType}
use Rattle.wgsl_rules.proofs.lemmas.Views.{member-type}
use Rattle.wgsl_scalar.specs.declared.literal.LiteralInstance.{LiteralInstance}
use Rattle.wgsl_values.specs.Make.{literals_view}
use Rattle.wgsl_values.specs.View.{value_of, vals_view}
use Rattle.wgsl_values.specs.declared.instance.Instance.{Instance}
use Rattle.wgsl_values.specs.declared.instance.Instance.TheVariants as inst
use Rattle.wgsl_values.proofs.Typed.{first_type-at}
use Rattle.wgsl_values.proofs.lemmas.Views.{value_of-Literal, count-vals_view}

pub vals_view-literals : (ls : List LiteralInstance) → vals_view (map (λ l. inst.Literal l) ls) ≡ literals_view ls
vals_view-literals [] = refl
vals_view-literals (l ∷ ls) = ap₂ val (value_of-Literal l) (vals_view-literals ls)

-- ---- parts of one type

pub above_zero : (n : ℕ) → (n == 0) ≡ false → 0 < n
above_zero zero e = cc
above_zero (suc n) e = omega arith

-- each is of the type, and storable
abbrev pub OfType : Ty → Vals → Type 0
OfType t vs = AllOfType t vs × AreStorable vs

abbrev IsOf : Ty → Val → Type 0
IsOf t v = (type_of v ≡ t) × IsStorable v

of_type-rest : (t : Ty) (vs : List Instance) (i : ℕ) → i < length vs → OfType t (vals_view (drop i vs)) → OfType t (vals_view (drop (i + 1) vs))
of_type-rest t [] i l h = absurd (omega arith)
of_type-rest t (v ∷ vs) zero l h = (h.0.1, h.1.1)
of_type-rest t (v ∷ vs) (suc i) l h = rw add-one (let k = of_type-rest t vs i (omega arith) h in rw add-one at k)

of_type-more : (t : Ty) (vs : List Instance) (i : ℕ) (d : Instance) → i < length vs → IsOf t (value_of (get_or vs i d)) → OfType t (vals_view (drop (i + 1) vs)) → OfType t (vals_view (drop i vs))
of_type-more t [] i d l v h = absurd (omega arith)
of_type-more t (w ∷ vs) zero d l v h = ((v.0, h.0), (v.1, h.1))
of_type-more t (w ∷ vs) (suc i) d l v h = let k = rw add-one at h in of_type-more t vs i d (omega arith) v (rw add-one k)

pub storable-here : (vs : List Instance) (i : ℕ) (d : Instance) → i < length vs → AreStorable (vals_view (drop i vs)) → IsStorable (value_of (get_or vs i d))
storable-here [] i d l h = absurd (omega arith)
storable-here (v ∷ vs) zero d l h = h.0
storable-here (v ∷ vs) (suc i) d l h = storable-here vs i d (omega arith) h

storable-push : (vs : List Instance) (i : ℕ) (d : Instance) → i < length vs → IsStorable (value_of (get_or vs i d)) → AreStorable (vals_view (take i vs)) → AreStorable (vals_view (take (i + 1) vs))
storable-push [] i d l v h = absurd (omega arith)
storable-push (w ∷ vs) zero d l v h = (v, tt)
storable-push (w ∷ vs) (suc i) d l v h = rw add-one (h.0, (let k = storable-push vs i d (omega arith) v h.1 in rw add-one at k))

-- what is left of the list decides the whole, since the part before it is as asked
abbrev pub Decides : List Instance → ℕ → Type 0
Decides vs i = AreStorable (vals_view (take i vs)) × (OfType (first_type (vals_view vs)) (vals_view (drop i vs)) ↔ OfType (first_type (vals_view vs)) (vals_view vs))

pub decides-next : (vs : List Instance) (i : ℕ) (v first : Instance) → i < length vs → v ≡ get_or vs i v → first ≡ get_or vs 0 first
    → IsStorable (value_of v) → type_of (value_of v) ≡ type_of (value_of first) → Decides vs i → Decides vs (i + 1)
decides-next vs i v first l is first_is storable typed h =
    let t = first_type (vals_view vs) in
    let like : type_of (value_of v) ≡ t = typed ∙ ap (λ (x : Instance). type_of (value_of x)) first_is ∙ sym (first_type-at vs first (omega arith)) in
    let here : IsOf t (value_of (get_or vs i v)) = subst (λ (x : Instance). IsOf t (value_of x)) is (like, storable) in (
      storable-push vs i v l here.1 h.0,
      ((λ k. h.1.0 (of_type-more t vs i v l here k)), (λ k. of_type-rest t vs i l (h.1.1 k))),
    )

-- ---- members of their types

-- each is of its member's type, and storable
abbrev pub OfMembers : List StructMemberType → List Instance → Type 0
OfMembers ms vs = HaveTypes (members_view ms) (vals_view vs) × AreStorable (vals_view vs)

pub of_members-counts : (ms : List StructMemberType) (vs : List Instance) → HaveTypes (members_view ms) (vals_view vs) → length vs ≡ length ms
of_members-counts [] [] h = refl
of_members-counts [] (v ∷ vs) h = absurd h
of_members-counts (m ∷ ms) [] h = absurd h
of_members-counts (m ∷ ms) (v ∷ vs) h = ap suc (of_members-counts ms vs h.1)

abbrev IsMember : StructMemberType → Instance → Type 0
IsMember m v = (type_of (value_of v) ≡ type_view m.ty) × IsStorable (value_of v)

pub of_members-here : (ms : List StructMemberType) (vs : List Instance) (i : ℕ) (m : StructMemberType) (d : Instance) → i < length vs → length vs ≡ length ms
    → OfMembers (drop i ms) (drop i vs) → type_of (value_of (get_or vs i d)) ≡ type_view (get_or ms i m).ty
of_members-here ms [] i m d l e h = absurd (omega arith)
of_members-here [] (v ∷ vs) i m d l e h = absurd (omega arith)
of_members-here (n ∷ ms) (v ∷ vs) zero m d l e h = h.0.0 ∙ member-type n
of_members-here (n ∷ ms) (v ∷ vs) (suc i) m d l e h = of_members-here ms vs i m d (omega arith) (omega arith) h

pub of_members-rest : (ms : List StructMemberType) (vs : List Instance) (i : ℕ) → i < length vs → length vs ≡ length ms
    → OfMembers (drop i ms) (drop i vs) → OfMembers (drop (i + 1) ms) (drop (i + 1) vs)
of_members-rest ms [] i l e h = absurd (omega arith)
of_members-rest [] (v ∷ vs) i l e h = absurd (omega arith)
of_members-rest (n ∷ ms) (v ∷ vs) zero l e h = (h.0.1, h.1.1)
of_members-rest (n ∷ ms) (v ∷ vs) (suc i) l e h = rw add-one (let k = of_members-rest ms vs i (omega arith) (omega arith) h in rw add-one at k)

pub of_members-more : (ms : List StructMemberType) (vs : List Instance) (i : ℕ) (m : StructMemberType) (d : Instance) → i < length vs → length vs ≡ length ms
    → IsMember (get_or ms i m) (get_or vs i d) → OfMembers (drop (i + 1) ms) (drop (i + 1) vs) → OfMembers (drop i ms) (drop i vs)
of_members-more ms [] i m d l e v h = absurd (omega arith)
of_members-more [] (v ∷ vs) i m d l e w h = absurd (omega arith)
of_members-more (n ∷ ms) (v ∷ vs) zero m d l e w h = ((w.0 ∙ sym (member-type n), h.0), (w.1, h.1))
of_members-more (n ∷ ms) (v ∷ vs) (suc i) m d l e w h = let k = rw add-one at h in of_members-more ms vs i m d (omega arith) (omega arith) w (rw add-one k)

-- ---- vectors and matrices

-- the types of literals
abbrev scalar_type : Ty → Bool
scalar_type types.bool = true
scalar_type types.abstract_int = true
scalar_type types.i32 = true
scalar_type types.u32 = true
scalar_type types.i64 = true
scalar_type types.u64 = true
scalar_type t = false

literal_is_scalar : (v : Val) → IsLiteral v → scalar_type (type_of v) ≡ true
literal_is_scalar (truth b) h = refl
literal_is_scalar (number kinds.abstract_int z) h = refl
literal_is_scalar (number kinds.i32 z) h = refl
literal_is_scalar (number kinds.u32 z) h = refl
literal_is_scalar (number kinds.i64 z) h = refl
literal_is_scalar (number kinds.u64 z) h = refl
literal_is_scalar v h = absurd h

vector_is_vec : (v : Val) → IsVector v → is_some (vec_part (type_of v)) ≡ true
vector_is_vec (vector vs) h = refl
vector_is_vec v h = absurd h

matrix-scalar : (n : ℕ) (t : Ty) → scalar_type (matrix_type n t) ≡ false
matrix-scalar n (types.vec m t) = refl
matrix-scalar n t = refl

matrix-vector : (n : ℕ) (t : Ty) → is_some (vec_part (matrix_type n t)) ≡ false
matrix-vector n (types.vec m t) = refl
matrix-vector n t = refl

scalar_is_literal : (v : Val) → IsStorable v → scalar_type (type_of v) ≡ true → IsLiteral v
scalar_is_literal (truth b) h e = tt
scalar_is_literal (number k z) h e = tt
scalar_is_literal (record_of (types.struct n fs) vs) h e = absurd (cc)
scalar_is_literal (record_of t vs) h e = absurd h.0
scalar_is_literal (array_of true vs) h e = absurd (cc)
scalar_is_literal (array_of false vs) h e = absurd (cc)
scalar_is_literal (matrix vs) h e = absurd (false≢true (sym (matrix-scalar (count vs) (first_type vs)) ∙ e))
scalar_is_literal (deferred t) h e = absurd h
scalar_is_literal v h e = absurd (cc)

vec_is_vector : (v : Val) → IsStorable v → is_some (vec_part (type_of v)) ≡ true → IsVector v
vec_is_vector (vector vs) h e = tt
vec_is_vector (number kinds.abstract_int z) h e = absurd (cc)
vec_is_vector (number kinds.i32 z) h e = absurd (cc)
vec_is_vector (number kinds.u32 z) h e = absurd (cc)
vec_is_vector (number kinds.i64 z) h e = absurd (cc)
vec_is_vector (number kinds.u64 z) h e = absurd (cc)
vec_is_vector (record_of (types.struct n fs) vs) h e = absurd (cc)
vec_is_vector (record_of t vs) h e = absurd h.0
vec_is_vector (array_of true vs) h e = absurd (cc)
vec_is_vector (array_of false vs) h e = absurd (cc)
vec_is_vector (matrix vs) h e = absurd (false≢true (sym (matrix-vector (count vs) (first_type vs)) ∙ e))
vec_is_vector (deferred t) h e = absurd h
vec_is_vector v h e = absurd (cc)

all-literals : (vs : Vals) (t : Ty) → scalar_type t ≡ true → OfType t vs → AreLiterals vs
all-literals no_vals t e h = tt
all-literals (val v vs) t e h = (scalar_is_literal v h.1.0 (ap scalar_type h.0.0 ∙ e), all-literals vs t e (h.0.1, h.1.1))

all-vectors : (vs : Vals) (t : Ty) → is_some (vec_part t) ≡ true → OfType t vs → AreVectors vs
all-vectors no_vals t e h = tt
all-vectors (val v vs) t e h = (vec_is_vector v h.1.0 (ap (λ s. is_some (vec_part s)) h.0.0 ∙ e), all-vectors vs t e (h.0.1, h.1.1))

pub vector-made : (vs : List Instance) (d : Instance) (b : Bool) → ((2 ≤ length vs) × (length vs ≤ 4)) → IsLiteral (value_of (get_or vs 0 d))
    → (IsTrue b ↔ OfType (first_type (vals_view vs)) (vals_view vs)) → IsTrue b ↔ IsStorable (vector (vals_view vs))
vector-made [] d b few first h = absurd (omega (arith, few.0))
vector-made (v ∷ vs) d b few first h = (
  (λ k. let all = h.0 k in
      let n : count (vals_view (v ∷ vs)) ≡ length (v ∷ vs) = count-vals_view (v ∷ vs) in
      (omega (arith, few.0), omega (arith, few.1), all-literals (vals_view (v ∷ vs)) (type_of (value_of v)) (literal_is_scalar (value_of v) first) all, all.0, all.1)),
  (λ k. h.1 (k.3, k.4)),
)

pub matrix-made : (vs : List Instance) (d : Instance) (b : Bool) → ((2 ≤ length vs) × (length vs ≤ 4)) → IsVector (value_of (get_or vs 0 d))
    → (IsTrue b ↔ OfType (first_type (vals_view vs)) (vals_view vs)) → IsTrue b ↔ IsStorable (matrix (vals_view vs))
matrix-made [] d b few first h = absurd (omega (arith, few.0))
matrix-made (v ∷ vs) d b few first h = (
  (λ k. let all = h.0 k in
      let n : count (vals_view (v ∷ vs)) ≡ length (v ∷ vs) = count-vals_view (v ∷ vs) in
      (omega (arith, few.0), omega (arith, few.1), all-vectors (vals_view (v ∷ vs)) (type_of (value_of v)) (vector_is_vec (value_of v) first) all, all.0, all.1)),
  (λ k. h.1 (k.3, k.4)),
)
