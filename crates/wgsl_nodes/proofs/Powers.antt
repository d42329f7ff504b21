-- Alignments are powers of two, so each divides those that are no less.
use Rattle.std.proofs.Common.{◌≡◌, ℕ, zero, suc, ◌+◌, ◌-◌, ◌*◌, ◌/◌, ◌%◌, ◌^◌, ◌<◌, ◌≤◌, max, ◌∷◌, Option, Some, None, is_some, inl, inr, Bool, true, false, refl, sym, ap, ◌∙◌, subst, arith}
use Rattle.std.specs.Prelude.{◌&&◌, ◌⊎◌, nat_eq, nat_le, ◌==◌, if◌then◌else◌}
use Rattle.std.specs.Int.{IsPowerOfTwo, is_power_of_two, next_multiple_of}
use Rattle.std.specs.Int.RustNames.{count_ones}
use Rattle.std.specs.Option.{option_or}
use Rattle.std.proofs.Math.Nat.{max-eq_left, max-eq_right, mod-eq_of_lt, mul-mod_left}
use Rattle.std.proofs.lemmas.Nat.{ones_le_self, zero_from_ones, pow-add, pow_pos, pow_below, div-add-mod'}
use Rattle.std.proofs.lemmas.Nat.Gcd.{dvd_refl, dvd_trans, le_of_dvd, dvd_of_mod-eq-zero, mod-eq-zero_of_dvd}
use Rattle.std.proofs.lemmas.Bool.{false≢true, cases_lt}
use Rattle.std.proofs.lemmas.Bool.Decides.{nat_tests}
use Rattle.std.proofs.lemmas.Option.{same_Some}
use lib.Count.{ones_step}
use native.Mathlib.Nat.{pow-suc}
use Rattle.wgsl_rules.specs.Types as types
use Rattle.wgsl_rules.specs.Types.{Ty, struct, array, vec, mat, atomic, Fields, no_fields, field}
use Rattle.wgsl_rules.specs.Size.{size_of, align_of, vec3_align, times, with_both, greatest_align, extents, extent_in}
use Rattle.wgsl_rules.specs.Layout.{is_from_2_to_4, is_multiple_of, is_align_valid, known_stride}
use Rattle.wgsl_rules.proofs.lemmas.Known.{and-both, some-of, times-known}
use Rattle.wgsl_nodes.specs.HostTypes.{is_scalar, has_fixed_nodes, have_fixed_nodes, is_runtime_array, end_in_runtime_array}
use Rattle.wgsl_nodes.proofs.Fixed.{vector-is, matrix-is, array-is, fixed-sized, first-is, last-runtime}

-- ---- powers of two

one-bit : (most n : ℕ) → n ≤ most → count_ones n ≡ 1 → IsPowerOfTwo n
one-bit zero n h e = absurd (omega (arith, ones_le_self n))
one-bit (suc most) n h e = by (cases_lt (n % 2) 1) (λ le half. one-bit most (n / 2) le half)
  where
    by : (n % 2 < 1) ⊎ (1 ≤ n % 2) → (n / 2 ≤ most → count_ones (n / 2) ≡ 1 → IsPowerOfTwo (n / 2)) → IsPowerOfTwo n
    by (inl even) lower =
        let step = ones_step n in
        let some = ones_le_self n in
        let k = lower (omega arith) (omega arith) in
        let twice : n ≡ n / 2 * 2 = omega arith in
        (suc k.0, twice ∙ ap (λ (m : ℕ). m * 2) k.1 ∙ sym (pow-suc 2 k.0))
    by (inr odd) lower =
        let step = ones_step n in
        let none = zero_from_ones (n / 2) (omega arith) in
        let one : n ≡ 1 = omega arith in
        (0, one)

-- of a test that has said so
pub power-is : (n : ℕ) → is_power_of_two n ≡ true → IsPowerOfTwo n
power-is n h = let e : count_ones n ≡ 1 = grind (arith, nat_tests) in one-bit n n (omega arith) e

pub power-positive : (n : ℕ) → IsPowerOfTwo n → 0 < n
power-positive n p = let k = pow_pos p.0 in let e = p.1 in omega arith

power-product : (a b : ℕ) → IsPowerOfTwo a → IsPowerOfTwo b → IsPowerOfTwo (a * b)
power-product a b p q = (p.0 + q.0, ap (λ (m : ℕ). m * b) p.1 ∙ ap (λ (m : ℕ). 2 ^ p.0 * m) q.1 ∙ sym (pow-add 2 p.0 q.0))

-- a power divides those that are no less
pub power-divides : (a b : ℕ) → IsPowerOfTwo a → IsPowerOfTwo b → a ≤ b → b % a ≡ 0
power-divides a b p q le = by (cases_lt q.0 p.0)
  where
    by : (q.0 < p.0) ⊎ (p.0 ≤ q.0) → b % a ≡ 0
    by (inl lt) = let below = pow_below q.0 p.0 lt in let e = p.1 in let f = q.1 in absurd (omega arith)
    by (inr le) =
        let more : q.0 ≡ (q.0 - p.0) + p.0 = omega arith in
        let is : b ≡ 2 ^ (q.0 - p.0) * a = q.1 ∙ ap (λ (k : ℕ). 2 ^ k) more ∙ pow-add 2 (q.0 - p.0) p.0 ∙ ap (λ (m : ℕ). 2 ^ (q.0 - p.0) * m) (sym p.1) in
        ap (λ (m : ℕ). m % a) is ∙ mul-mod_left (2 ^ (q.0 - p.0)) a

-- what is a multiple of a multiple
pub multiple-through : (a b n : ℕ) → b % a ≡ 0 → n % b ≡ 0 → n % a ≡ 0
multiple-through a b n h k = mod-eq-zero_of_dvd a (dvd_trans a (dvd_of_mod-eq-zero a h) (dvd_of_mod-eq-zero b k))

pub no-less : (a b : ℕ) → 0 < b → b % a ≡ 0 → a ≤ b
no-less a b h e = le_of_dvd h (dvd_of_mod-eq-zero a e)

pub rounded-multiple : (n a : ℕ) → 0 < a → next_multiple_of n a % a ≡ 0
rounded-multiple n a h = by (cases_lt 0 (n % a))
  where
    by : (0 < n % a) ⊎ (n % a ≤ 0) → next_multiple_of n a % a ≡ 0
    by (inl some) =
        let s : (a - n % a) % a ≡ a - n % a = mod-eq_of_lt (omega arith) in
        let e : n + (a - n % a) ≡ (n / a + 1) * a = omega (arith, div-add-mod' n a) in
        ap (λ (k : ℕ). (n + k) % a) s ∙ ap (λ (k : ℕ). k % a) e ∙ mul-mod_left (n / a + 1) a
    by (inr none) =
        let s : (a - n % a) % a ≡ 0 = ap (λ (k : ℕ). k % a) (let whole : a - n % a ≡ a = omega arith in whole) ∙ mod-eq-zero_of_dvd a (dvd_refl a) in
        ap (λ (k : ℕ). (n + k) % a) s ∙ ap (λ (k : ℕ). k % a) (let same : n + 0 ≡ n = omega arith in same) ∙ (let zero_left : n % a ≡ 0 = omega arith in zero_left)

max-power : (a b : ℕ) → (0 < a → IsPowerOfTwo a) → IsPowerOfTwo b → IsPowerOfTwo (max a b)
max-power a b p q = by (cases_lt b a)
  where
    by : (b < a) ⊎ (a ≤ b) → IsPowerOfTwo (max a b)
    by (inl lt) = subst IsPowerOfTwo (sym (max-eq_left (omega arith))) (p (omega arith))
    by (inr le) = subst IsPowerOfTwo (sym (max-eq_right le)) q

-- ---- alignments

pub record IsAligned (t : Ty) : Type 0 where
  pub align : ℕ
  pub align_is : align_of t ≡ Some align
  pub power : IsPowerOfTwo align

of-power : (t : Ty) (k : ℕ) → align_of t ≡ Some (2 ^ k) → IsAligned t
of-power t k e = record { align = 2 ^ k; align_is = e; power = (k, refl) }

scalar-power : (t : Ty) (s : ℕ) → is_scalar t ≡ true → size_of t ≡ Some s → IsPowerOfTwo s
scalar-power types.i32 s h e = (2, sym (same_Some 4 s e))
scalar-power types.u32 s h e = (2, sym (same_Some 4 s e))
scalar-power types.f32 s h e = (2, sym (same_Some 4 s e))
scalar-power types.f16 s h e = (1, sym (same_Some 2 s e))
scalar-power types.i64 s h e = (3, sym (same_Some 8 s e))
scalar-power types.u64 s h e = (3, sym (same_Some 8 s e))
scalar-power types.f64 s h e = (3, sym (same_Some 8 s e))
scalar-power t s h e = absurd (false≢true h)

vec3-power : (t : Ty) (a : ℕ) → vec3_align t ≡ Some a → IsPowerOfTwo a
vec3-power types.i32 a e = (4, sym (same_Some 16 a e))
vec3-power types.u32 a e = (4, sym (same_Some 16 a e))
vec3-power types.f32 a e = (4, sym (same_Some 16 a e))
vec3-power types.f16 a e = (3, sym (same_Some 8 a e))
vec3-power types.i64 a e = (5, sym (same_Some 32 a e))
vec3-power types.u64 a e = (5, sym (same_Some 32 a e))
vec3-power t a e = absurd (cc)

vector-power : (n : ℕ) (t : Ty) (a : ℕ) → is_from_2_to_4 n ≡ true → is_scalar t ≡ true → align_of (vec n t) ≡ Some a → IsPowerOfTwo a
vector-power n t a c k e = by (n == 3) refl e
  where
    count-power : 2 ≤ n → n ≤ 4 → nat_eq n 3 ≡ false → IsPowerOfTwo n
    count-power low high other = either (cases_lt n 3)
      where
        either : (n < 3) ⊎ (3 ≤ n) → IsPowerOfTwo n
        either (inl lt) = (1, let two : n ≡ 2 = omega arith in two)
        either (inr le) = (2, let four : n ≡ 4 = grind (arith, nat_tests) in four)

    by : (b : Bool) → nat_eq n 3 ≡ b → (if b then vec3_align t else times n (size_of t)) ≡ Some a → IsPowerOfTwo a
    by true is e = vec3-power t a e
    by false is e =
        let both = and-both (nat_le 2 n) (nat_le n 4) c in
        let low = both.0 in let high = both.1 in
        let s = times-known n (size_of t) a e in
        subst IsPowerOfTwo (sym s.2) (power-product n s.0 (count-power (grind (arith, nat_tests)) (grind (arith, nat_tests)) is) (scalar-power t s.0 k s.1))

-- a member whose attribute is valid
pub record IsAlignedMember (t : Ty) (a : Option ℕ) : Type 0 where
  pub own : IsAligned t
  pub valid : is_align_valid a (align_of t) ≡ true

abbrev pub AreAligned : Fields → Type 0
AreAligned no_fields = Unit {0}
AreAligned (field name t s a fs) = IsAlignedMember t a × AreAligned fs

-- what the place of a member is a multiple of
pub record IsPlacedBy (t : Ty) (a : Option ℕ) (align : ℕ) : Type 0 where
  pub far : ℕ
  pub far_is : option_or a (align_of t) ≡ Some far
  pub power : IsPowerOfTwo far
  pub multiple : far % align ≡ 0

pub placed-by : (t : Ty) (a : Option ℕ) (m : IsAlignedMember t a) → IsPlacedBy t a m.own.align
placed-by t None m = record { far = m.own.align; far_is = m.own.align_is; power = m.own.power; multiple = mod-eq-zero_of_dvd m.own.align (dvd_refl m.own.align) }
placed-by t (Some k) m =
    let valid : (is_power_of_two k && is_multiple_of k (Some m.own.align)) ≡ true = ap (λ (o : Option ℕ). is_power_of_two k && is_multiple_of k o) (sym m.own.align_is) ∙ m.valid in
    let both = and-both (is_power_of_two k) (is_multiple_of k (Some m.own.align)) valid in
    record { far = k; far_is = refl; power = power-is k both.0; multiple = divided k m.own.align both.1 }
  where
    divided : (k n : ℕ) → (k % n == 0) ≡ true → k % n ≡ 0
    divided k n e = grind (arith, nat_tests)

-- ---- the greatest of one alignment and those of members

pub align-next : (t : Ty) (s a : Option ℕ) (fs : Fields) (from far : ℕ) → option_or a (align_of t) ≡ Some far
    → greatest_align (Some from) (extent_in t s a ∷ extents fs) ≡ greatest_align (Some (max from far)) (extents fs)
align-next t s a fs from far e = ap (λ (x : Option ℕ). greatest_align (with_both (λ b c. Some (max b c)) (Some from) x) (extents fs)) e

pub greatest-later : (fs : Fields) (from g : ℕ) → AreAligned fs → greatest_align (Some from) (extents fs) ≡ Some g → from ≤ g
greatest-later no_fields from g all e = let same = same_Some from g e in omega arith
greatest-later (field n t s a fs) from g all e =
    let f = placed-by t a all.0 in
    let later = greatest-later fs (max from f.far) g all.1 (sym (align-next t s a fs from f.far f.far_is) ∙ e) in
    omega arith

greatest-power : (fs : Fields) (from g : ℕ) → AreAligned fs → (0 < from → IsPowerOfTwo from) → greatest_align (Some from) (extents fs) ≡ Some g → 0 < g → IsPowerOfTwo g
greatest-power no_fields from g all p e h = let same = same_Some from g e in subst IsPowerOfTwo same (p (omega arith))
greatest-power (field n t s a fs) from g all p e h =
    let f = placed-by t a all.0 in
    greatest-power fs (max from f.far) g all.1 (λ lt. max-power from f.far p f.power) (sym (align-next t s a fs from f.far f.far_is) ∙ e) h

-- of a structure
pub struct-power : (fs : Fields) (g : ℕ) → AreAligned fs → greatest_align (Some 0) (extents fs) ≡ Some g → 0 < g → IsPowerOfTwo g
struct-power fs g all e h = greatest-power fs 0 g all (λ lt. absurd (omega arith)) e h

pub greatest-known : (fs : Fields) (from : ℕ) → AreAligned fs → (g : ℕ) × (greatest_align (Some from) (extents fs) ≡ Some g)
greatest-known no_fields from all = (from, refl)
greatest-known (field n t s a fs) from all =
    let f = placed-by t a all.0 in
    let rest = greatest-known fs (max from f.far) all.1 in
    (rest.0, align-next t s a fs from f.far f.far_is ∙ rest.1)

mutual
  pub fixed-aligned : (t : Ty) → has_fixed_nodes t ≡ true → IsAligned t
  fixed-aligned types.i32 h = of-power types.i32 2 refl
  fixed-aligned types.u32 h = of-power types.u32 2 refl
  fixed-aligned types.f32 h = of-power types.f32 2 refl
  fixed-aligned types.f16 h = of-power types.f16 1 refl
  fixed-aligned types.i64 h = of-power types.i64 3 refl
  fixed-aligned types.u64 h = of-power types.u64 3 refl
  fixed-aligned types.f64 h = of-power types.f64 3 refl
  fixed-aligned (atomic t) h = of-power (atomic t) 2 refl
  fixed-aligned (vec n t) h =
      let v = vector-is n t h in
      let a = some-of (align_of (vec n t)) v.aligned in
      record { align = a.0; align_is = a.1; power = vector-power n t a.0 v.count v.scalar a.1 }
  fixed-aligned (mat c r t) h =
      let m = matrix-is c r t h in
      let s = some-of (size_of (mat c r t)) m.sized in
      let a = times-known c (align_of (vec r t)) s.0 s.1 in
      record { align = a.0; align_is = a.1; power = vector-power r t a.0 m.rows m.scalar a.1 }
  fixed-aligned (array t (Some n)) h =
      let own = fixed-aligned t (array-is n t h).element in
      record { align = own.align; align_is = own.align_is; power = own.power }
  fixed-aligned (array t None) h = absurd (false≢true h)
  fixed-aligned (struct name fs) h =
      let own = fixed-sized (struct name fs) h in
      let both = and-both (have_fixed_nodes fs) (is_some (size_of (struct name fs))) h in
      record { align = own.align; align_is = own.align_is; power = struct-power fs own.align (fields-aligned fs both.0) own.align_is own.aligned }
  fixed-aligned t h = absurd (false≢true h)

  pub fields-aligned : (fs : Fields) → have_fixed_nodes fs ≡ true → AreAligned fs
  fields-aligned no_fields h = tt
  fields-aligned (field n t s a fs) h =
      let f = first-is t s a (have_fixed_nodes fs) h in
      (record { own = fixed-aligned t f.fixed; valid = f.align_valid }, fields-aligned fs f.rest)

pub runtime-aligned : (t : Ty) → is_runtime_array t ≡ true → IsAligned t
runtime-aligned (array t None) h =
    let own = fixed-aligned t (and-both (has_fixed_nodes t) (is_some (known_stride t)) h).0 in
    record { align = own.align; align_is = own.align_is; power = own.power }
runtime-aligned t h = absurd (false≢true h)

pub ended-aligned : (fs : Fields) (from : Option ℕ) → end_in_runtime_array from fs ≡ true → AreAligned fs
ended-aligned no_fields from h = absurd (false≢true h)
ended-aligned (field n t s a no_fields) from h =
    let l = last-runtime t s a from h in
    (record { own = runtime-aligned t l.runtime; valid = l.align_valid }, tt)
ended-aligned (field n t s a (field m u z k fs)) from h =
    let f = first-is t s a (end_in_runtime_array _ (field m u z k fs)) h in
    (record { own = fixed-aligned t f.fixed; valid = f.align_valid }, ended-aligned (field m u z k fs) _ f.rest)
