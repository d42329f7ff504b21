-- Zero values may be stored, and are of their types.
use Rattle.std.proofs.Common.{◌≡◌, ℕ, List, zero, suc, ◌<◌, ◌≤◌, Bool, true, false, Option, Some, None, refl, sym, ap, subst, ◌∙◌, arith}
use Rattle.std.specs.Prelude.{option_map, MatchOption, IfSome, nat_le, if◌then◌else◌}
use Rattle.std.proofs.lemmas.Bool.{false≢true}
use Rattle.std.proofs.lemmas.Bool.Decides.{nat_tests}
use Rattle.wgsl_rules.specs.Layout.{is_from_2_to_4}
use Rattle.wgsl_rules.specs.Types as types
use Rattle.wgsl_rules.specs.Types.{Ty, Fields, no_fields, field}
use Rattle.wgsl_rules.specs.Values.{Val, truth, record_of, array_of, vector, matrix, Vals, no_vals, count, type_of, first_type, AllOfType, HaveTypes, IsLiteral, AreLiterals, IsVector, AreVectors, IsStorable, AreStorable}
use Rattle.wgsl_rules.proofs.lemmas.Converted.{joins}
use Rattle.wgsl_rules.proofs.lemmas.Tests.{at-least-2, at-most-4}
use Rattle.wgsl_apply.specs.Zeros.{zero_scalar, copies, zero_vector, zero_matrix, zero_array, zero_of, zeros_of}

-- ---- copies of a value

pub count-copies : (n : ℕ) (v : Val) → count (copies n v) ≡ n
count-copies zero v = refl
count-copies (suc n) v = ap suc (count-copies n v)

copies-of_type : (n : ℕ) (v : Val) → AllOfType (type_of v) (copies n v)
copies-of_type zero v = tt
copies-of_type (suc n) v = (refl, copies-of_type n v)

copies-of_first : (n : ℕ) (v : Val) → AllOfType (first_type (copies n v)) (copies n v)
copies-of_first zero v = tt
copies-of_first (suc n) v = (refl, copies-of_type n v)

copies-storable : (n : ℕ) (v : Val) → IsStorable v → AreStorable (copies n v)
copies-storable zero v h = tt
copies-storable (suc n) v h = (h, copies-storable n v h)

copies-literals : (n : ℕ) (v : Val) → IsLiteral v → AreLiterals (copies n v)
copies-literals zero v h = tt
copies-literals (suc n) v h = (h, copies-literals n v h)

copies-vectors : (n : ℕ) (v : Val) → IsVector v → AreVectors (copies n v)
copies-vectors zero v h = tt
copies-vectors (suc n) v h = (h, copies-vectors n v h)

first-copies : (n : ℕ) (v : Val) → 1 ≤ n → first_type (copies n v) ≡ type_of v
first-copies zero v h = absurd (omega arith)
first-copies (suc n) v h = refl

-- ---- what a whole is made of

within : (n : ℕ) → 2 ≤ n → n ≤ 4 → is_from_2_to_4 n ≡ true
within n low high = grind (arith, nat_tests)

some-is : (P : Val → Type 0) (x v : Val) → Some x ≡ Some v → P x → P v
some-is P x v e p = let same : x ≡ v = cc in subst P same p

pub record IsTested (b : Bool) (o : Option Val) (v : Val) : Type 0 where
  pub test : b ≡ true
  pub is : o ≡ Some v

tested : (b : Bool) (o : Option Val) (v : Val) → (if b then o else None) ≡ Some v → IsTested b o v
tested true o v e = record { test = refl; is = e }
tested false o v e = absurd (cc)

pub record IsMapped (f : Val → Val) (o : Option Val) (v : Val) : Type 0 where
  pub own : Val
  pub was : o ≡ Some own
  pub is : f own ≡ v

mapped : (f : Val → Val) (o : Option Val) (v : Val) → option_map f o ≡ Some v → IsMapped f o v
mapped f None v e = absurd (cc)
mapped f (Some x) v e = record { own = x; was = refl; is = cc }

-- ---- scalars

pub record IsZeroScalar (t : Ty) (v : Val) : Type 0 where
  pub literal : IsLiteral v
  pub storable : IsStorable v
  pub typed : type_of v ≡ t

pub scalar-zero : (t : Ty) (v : Val) → zero_scalar t ≡ Some v → IsZeroScalar t v
scalar-zero types.bool v e = some-is (IsZeroScalar types.bool) (truth false) v e (record { literal = tt; storable = tt; typed = refl })
scalar-zero types.abstract_int v e = some-is (IsZeroScalar types.abstract_int) _ v e (record { literal = tt; storable = refl; typed = refl })
scalar-zero types.i32 v e = some-is (IsZeroScalar types.i32) _ v e (record { literal = tt; storable = refl; typed = refl })
scalar-zero types.u32 v e = some-is (IsZeroScalar types.u32) _ v e (record { literal = tt; storable = refl; typed = refl })
scalar-zero types.i64 v e = some-is (IsZeroScalar types.i64) _ v e (record { literal = tt; storable = refl; typed = refl })
scalar-zero types.u64 v e = some-is (IsZeroScalar types.u64) _ v e (record { literal = tt; storable = refl; typed = refl })
scalar-zero t v e = absurd (cc)

-- ---- vectors, matrices and arrays of copies

pub vector-storable : (n : ℕ) (v : Val) → IsLiteral v → IsStorable v → is_from_2_to_4 n ≡ true → IsStorable (vector (copies n v))
vector-storable n v literal storable e =
    let counted = count-copies n v in
    (rw counted (at-least-2 n e), rw counted (at-most-4 n e), copies-literals n v literal, copies-of_first n v, copies-storable n v storable)

pub matrix-storable : (n : ℕ) (v : Val) → IsVector v → IsStorable v → is_from_2_to_4 n ≡ true → IsStorable (matrix (copies n v))
matrix-storable n v columns storable e =
    let counted = count-copies n v in
    (rw counted (at-least-2 n e), rw counted (at-most-4 n e), copies-vectors n v columns, copies-of_first n v, copies-storable n v storable)

pub array-storable : (n : ℕ) (v : Val) → IsStorable v → nat_le 1 n ≡ true → IsStorable (array_of false (copies n v))
array-storable n v storable e =
    let counted = count-copies n v in
    let some : 0 < n = grind (arith, nat_tests) in
    (rw counted some, copies-of_first n v, copies-storable n v storable)

vector-count : (n : ℕ) (v : Val) → IsStorable (vector (copies n v)) → is_from_2_to_4 n ≡ true
vector-count n v h = within n (rw (count-copies n v) at h.0) (rw (count-copies n v) at h.1)

matrix-count : (n : ℕ) (v : Val) → IsStorable (matrix (copies n v)) → is_from_2_to_4 n ≡ true
matrix-count n v h = within n (rw (count-copies n v) at h.0) (rw (count-copies n v) at h.1)

array-count : (n : ℕ) (v : Val) → IsStorable (array_of false (copies n v)) → nat_le 1 n ≡ true
array-count n v h = let some : 0 < n = rw (count-copies n v) at h.0 in grind (arith, nat_tests)

pub record IsZeroVector (n : ℕ) (t : Ty) (v : Val) : Type 0 where
  pub vector : IsVector v
  pub storable : IsStorable v
  pub typed : type_of v ≡ types.vec n t

pub vector-zero : (n : ℕ) (t : Ty) (v : Val) → zero_vector n t ≡ Some v → IsZeroVector n t v
vector-zero n t v e =
    let b = tested (is_from_2_to_4 n) (option_map (λ v. vector (copies n v)) (zero_scalar t)) v e in
    let m = mapped (λ v. vector (copies n v)) (zero_scalar t) v b.is in
    let s = scalar-zero t m.own m.was in
    let many : 1 ≤ n = omega (arith, at-least-2 n b.test) in
    subst (IsZeroVector n t) m.is (record {
      vector = tt;
      storable = vector-storable n m.own s.literal s.storable b.test;
      typed = rw (count-copies n m.own, first-copies n m.own many, s.typed) refl;
    })

matrix-typed : (c r : ℕ) (t : Ty) (v : Val) → 1 ≤ c → type_of v ≡ types.vec r t → type_of (matrix (copies c v)) ≡ types.mat c r t
matrix-typed c r t v many e = rw (count-copies c v, first-copies c v many, e) refl

-- ---- any type

pub record IsZero (t : Ty) (v : Val) : Type 0 where
  pub storable : IsStorable v
  pub typed : type_of v ≡ t

matrix-zero : (c r : ℕ) (t : Ty) (v : Val) → zero_matrix c r t ≡ Some v → IsZero (types.mat c r t) v
matrix-zero c r t v e =
    let b = tested (is_from_2_to_4 c) (option_map (λ v. matrix (copies c v)) (zero_vector r t)) v e in
    let m = mapped (λ v. matrix (copies c v)) (zero_vector r t) v b.is in
    let s = vector-zero r t m.own m.was in
    let many : 1 ≤ c = omega (arith, at-least-2 c b.test) in
    subst (IsZero (types.mat c r t)) m.is (record {
      storable = matrix-storable c m.own s.vector s.storable b.test;
      typed = matrix-typed c r t m.own many s.typed;
    })

pub record IsZeros (fs : Fields) (vs : Vals) : Type 0 where
  pub typed : HaveTypes fs vs
  pub storable : AreStorable vs

pub record IsArray (t : Ty) (n : Option ℕ) (o : Option Val) (v : Val) : Type 0 where
  pub own : Val
  pub was : o ≡ Some own
  pub storable : IsStorable own → IsStorable v
  pub typed : type_of own ≡ t → type_of v ≡ types.array t n

array-zero : (t : Ty) (n : Option ℕ) (o : Option Val) (v : Val) → zero_array n o ≡ Some v → IsArray t n o v
array-zero t None o v e = absurd (cc)
array-zero t (Some n) o v e =
    let b = tested (nat_le 1 n) (option_map (λ v. array_of false (copies n v)) o) v e in
    let m = mapped (λ v. array_of false (copies n v)) o v b.is in
    let many : 1 ≤ n = grind (arith, nat_tests) in
    record {
      own = m.own;
      was = m.was;
      storable = λ h. subst IsStorable m.is (array-storable n m.own h b.test);
      typed = λ h. subst (λ x. type_of x ≡ types.array t (Some n)) m.is (rw (count-copies n m.own, first-copies n m.own many, h) refl);
    }

pub record IsMappedMembers (f : Vals → Val) (o : Option Vals) (v : Val) : Type 0 where
  pub own : Vals
  pub was : o ≡ Some own
  pub is : f own ≡ v

mapped_members : (f : Vals → Val) (o : Option Vals) (v : Val) → option_map f o ≡ Some v → IsMappedMembers f o v
mapped_members f None v e = absurd (cc)
mapped_members f (Some x) v e = record { own = x; was = refl; is = cc }

of-scalar : (t : Ty) (v : Val) → zero_scalar t ≡ Some v → IsZero t v
of-scalar t v e = let s = scalar-zero t v e in record { storable = s.storable; typed = s.typed }

mutual
  pub zero-is : (t : Ty) (v : Val) → zero_of t ≡ Some v → IsZero t v
  zero-is (types.vec n t) v e = let s = vector-zero n t v e in record { storable = s.storable; typed = s.typed }
  zero-is (types.mat c r t) v e = matrix-zero c r t v e
  zero-is (types.array t n) v e =
      let a = array-zero t n (zero_of t) v e in
      let own = zero-is t a.own a.was in
      record { storable = a.storable own.storable; typed = a.typed own.typed }
  zero-is (types.struct n fs) v e =
      let m = mapped_members (record_of (types.struct n fs)) (zeros_of fs) v e in
      let own = zeros-are fs m.own m.was in
      subst (IsZero (types.struct n fs)) m.is (record { storable = (own.typed, own.storable); typed = refl })
  zero-is t v e = of-scalar t v e

  pub zeros-are : (fs : Fields) (vs : Vals) → zeros_of fs ≡ Some vs → IsZeros fs vs
  zeros-are no_fields vs e = let same : no_vals ≡ vs = cc in subst (IsZeros no_fields) same (record { typed = tt; storable = tt })
  zeros-are (field n t s a fs) vs e =
      let j = joins (zero_of t) (zeros_of fs) vs e in
      let first = zero-is t j.first j.first_is in
      let rest = zeros-are fs j.rest j.rest_is in
      subst (IsZeros (field n t s a fs)) (sym j.is) (record { typed = (first.typed, rest.typed); storable = (first.storable, rest.storable) })

-- ---- what is made where it may be stored

if-none : (b : Bool) (o : Option Val) → o ≡ None → (if b then o else None) ≡ None
if-none true o e = e
if-none false o e = refl

pub made : {X : Type 0} (view : X → Val) (o : Option X) (w : Val) (b : Bool) → (b ≡ true → IsStorable w) → (IsStorable w → b ≡ true)
    → MatchOption o (¬ IsStorable w) (λ x. view x ≡ w) → IfSome o (λ x. IsStorable (view x)) → option_map view o ≡ (if b then Some w else None)
made view None w true can must value some = absurd (value (can refl))
made view None w false can must value some = refl
made view (Some x) w true can must value some = ap Some value
made view (Some x) w false can must value some = absurd (false≢true (must (subst IsStorable value some)))

pub vector-made : {X : Type 0} (view : X → Val) (o : Option X) (n : ℕ) (t : Ty) (v : Val) (vs : Vals) → zero_scalar t ≡ Some v → vs ≡ copies n v
    → MatchOption o (¬ IsStorable (vector vs)) (λ x. view x ≡ vector vs) → IfSome o (λ x. IsStorable (view x)) → option_map view o ≡ zero_vector n t
vector-made view o n t v vs is copied value some =
    let s = scalar-zero t v is in
    let value = subst (λ (vs : Vals). MatchOption o (¬ IsStorable (vector vs)) (λ x. view x ≡ vector vs)) copied value in
    rw is (made view o (vector (copies n v)) (is_from_2_to_4 n) (vector-storable n v s.literal s.storable) (vector-count n v) value some)

pub matrix-made : {X : Type 0} (view : X → Val) (o : Option X) (c r : ℕ) (t : Ty) (v : Val) (vs : Vals) → zero_vector r t ≡ Some v → vs ≡ copies c v
    → MatchOption o (¬ IsStorable (matrix vs)) (λ x. view x ≡ matrix vs) → IfSome o (λ x. IsStorable (view x)) → option_map view o ≡ zero_matrix c r t
matrix-made view o c r t v vs is copied value some =
    let s = vector-zero r t v is in
    let value = subst (λ (vs : Vals). MatchOption o (¬ IsStorable (matrix vs)) (λ x. view x ≡ matrix vs)) copied value in
    subst (λ (z : Option Val). option_map view o ≡ (if is_from_2_to_4 c then option_map (λ v. matrix (copies c v)) z else None)) (sym is)
    (made view o (matrix (copies c v)) (is_from_2_to_4 c) (matrix-storable c v s.vector s.storable) (matrix-count c v) value some)

pub array-made : {X : Type 0} (view : X → Val) (o : Option X) (n : ℕ) (v : Val) (vs : Vals) → IsStorable v → vs ≡ copies n v
    → MatchOption o (¬ IsStorable (array_of false vs)) (λ x. view x ≡ array_of false vs) → IfSome o (λ x. IsStorable (view x)) → option_map view o ≡ zero_array (Some n) (Some v)
array-made view o n v vs storable copied value some =
    let value = subst (λ (vs : Vals). MatchOption o (¬ IsStorable (array_of false vs)) (λ x. view x ≡ array_of false vs)) copied value in
    made view o (array_of false (copies n v)) (nat_le 1 n) (array-storable n v storable) (array-count n v) value some

pub record-made : {X : Type 0} (view : X → Val) (o : Option X) (t : Ty) (n : List ℕ) (fs : Fields) (vs : Vals) → t ≡ types.struct n fs → zeros_of fs ≡ Some vs
    → MatchOption o (¬ IsStorable (record_of t vs)) (λ x. view x ≡ record_of t vs) → option_map view o ≡ zero_of (types.struct n fs)
record-made view None t n fs vs same is value =
    let s = zeros-are fs vs is in
    let value = subst (λ (t : Ty). ¬ IsStorable (record_of t vs)) same value in
    absurd (value (s.typed, s.storable))
record-made view (Some x) t n fs vs same is value = rw is (ap Some (value ∙ ap (λ (t : Ty). record_of t vs) same))

pub no-vector : (n : ℕ) (t : Ty) → zero_scalar t ≡ None → zero_vector n t ≡ None
no-vector n t e = if-none (is_from_2_to_4 n) (option_map (λ v. vector (copies n v)) (zero_scalar t)) (ap (option_map (λ v. vector (copies n v))) e)

pub no-matrix : (c r : ℕ) (t : Ty) → zero_vector r t ≡ None → zero_matrix c r t ≡ None
no-matrix c r t e = if-none (is_from_2_to_4 c) (option_map (λ v. matrix (copies c v)) (zero_vector r t)) (ap (option_map (λ v. matrix (copies c v))) e)

pub no-array : (n : Option ℕ) → zero_array n None ≡ None
no-array None = refl
no-array (Some n) = if-none (nat_le 1 n) None refl
