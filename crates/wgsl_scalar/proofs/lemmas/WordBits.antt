-- The bits of an i32 or a u32 that was made of bits.
use Rattle.std.proofs.Common.{◌≡◌, ℕ, zero, suc, ◌-◌, ◌*◌, ◌^◌, ◌<◌, ◌≤◌, ℤ, pos, negsuc, arith, sym, ap, ◌∙◌, inl, inr}
use Rattle.std.specs.Int.{bit_at, w32}
use Rattle.std.proofs.Math.Nat.{mod-lt, mod-eq_of_lt, add_comm, pow-suc, le_refl}
use Rattle.std.proofs.lemmas.Bool.{cases_lt}
use Rattle.std.proofs.lemmas.Bool.Decides.{nat_tests}
use Rattle.std.proofs.lemmas.Int.{ints}
use Rattle.std.proofs.lemmas.Nat.{mul-le}
use Rattle.std.proofs.lemmas.Nat.Bits.{bit_at_cat_low, bit_at_cat_high}
use Rattle.wgsl_rules.specs.Kinds as kinds
use Rattle.wgsl_rules.specs.Kinds.{Kind, InKind, width, modulo, wrap}
use Rattle.wgsl_scalar.specs.Bits.{bit, from_bits}
use Rattle.wgsl_scalar.proofs.lemmas.BitLaws.{bit_at-modulo, from_bits-bit_at, from_bits-same}

abbrev pub AreBits : (ℕ → ℕ) → Type 0
AreBits f = (i : ℕ) → f i < 2

pub from_bits-lt : (w : ℕ) (f : ℕ → ℕ) → AreBits f → from_bits w f < 2 ^ w
unfolding from_bits
from_bits-lt zero f h = omega arith
from_bits-lt (suc w) f h =
    let l = from_bits-lt w f h in
    let one : f w ≤ 1 = omega (arith, h w) in
    let m = mul-le (f w) (2 ^ w) 1 (2 ^ w) one (le_refl (2 ^ w)) in
    omega (arith, l, m, pow-suc 2 w)

pub from_bits-bit : (w : ℕ) (f : ℕ → ℕ) (i : ℕ) → AreBits f → i < w → bit_at (from_bits w f) i ≡ f i
unfolding from_bits
from_bits-bit zero f i h l = absurd (omega arith)
from_bits-bit (suc w) f i h l =
    let e = add_comm (from_bits w f) (f w * 2 ^ w) in
    ap (λ x. bit_at x i) e ∙ elim (cases_lt i w) [
      | inl low ↦ bit_at_cat_low (f w) w (from_bits w f) i low ∙ from_bits-bit w f i h low
      | inr high ↦
          let same : i ≡ w = omega arith in
          let none : i - w ≡ 0 = omega arith in
          bit_at_cat_high (f w) w (from_bits w f) i (from_bits-lt w f h) high ∙ ap (bit_at (f w)) none ∙ lowest (f w) (h w) ∙ ap f (sym same)
    ]
  where
    lowest : (n : ℕ) → n < 2 → bit_at n 0 ≡ n
    lowest n small = omega arith

-- ---- an i32 and a u32

modulo-wrap : (k : Kind) (n : ℕ) → width k ≡ 32 → n < 2 ^ 32 → modulo (wrap k (pos n)) (2 ^ 32) ≡ n
modulo-wrap kinds.i32 n e h = grind (arith, nat_tests, ints)
modulo-wrap kinds.u32 n e h = grind (arith, nat_tests, ints)
modulo-wrap k n e h = absurd (omega arith)

wrap-modulo : (k : Kind) (z : ℤ) → width k ≡ 32 → InKind k z → wrap k (pos (modulo z (2 ^ 32))) ≡ z
wrap-modulo kinds.i32 (pos n) e h = grind (arith, ints)
wrap-modulo kinds.i32 (negsuc n) e h = grind (arith, ints)
wrap-modulo kinds.u32 (pos n) e h = grind (arith, ints)
wrap-modulo kinds.u32 (negsuc n) e h = grind (arith, ints)
wrap-modulo k z e h = absurd (omega arith)

modulo-lt : (z : ℤ) → modulo z (2 ^ 32) < 2 ^ 32
modulo-lt (pos n) = mod-lt n (omega arith)
modulo-lt (negsuc n) = omega arith

-- a number that was made of bits has these bits
pub word-bit : (k : Kind) (f : ℕ → ℕ) (i : ℕ) → width k ≡ 32 → AreBits f → i < 32 → bit (wrap k (pos (from_bits (width k) f))) i ≡ f i
word-bit k f i e h l =
    let y = wrap k (pos (from_bits 32 f)) in
    ap (λ x. bit (wrap k (pos (from_bits x f))) i) e
    ∙ sym (bit_at-modulo w32 y i l)
    ∙ ap (λ x. bit_at x i) (modulo-wrap k (from_bits 32 f) e (from_bits-lt 32 f h))
    ∙ from_bits-bit 32 f i h l

-- the number that is made of the bits of a number is that number
pub word-back : (k : Kind) (f : ℕ → ℕ) (z : ℤ) → width k ≡ 32 → InKind k z → ((i : ℕ) → i < 32 → f i ≡ bit z i) → wrap k (pos (from_bits (width k) f)) ≡ z
word-back k f z e h g =
    let n = modulo z (2 ^ 32) in
    let same = from_bits-same 32 f (bit_at n) (λ i l. g i l ∙ sym (bit_at-modulo w32 z i l)) in
    ap (λ x. wrap k (pos (from_bits x f))) e
    ∙ ap (λ x. wrap k (pos x)) (same ∙ from_bits-bit_at 32 n ∙ mod-eq_of_lt (modulo-lt z))
    ∙ wrap-modulo k z e h
