-- Bits of a number, and the numbers that the processor's words give.
use Rattle.std.proofs.Common.{◌≡◌, ℕ, zero, suc, ◌+◌, ◌-◌, ◌*◌, ◌/◌, ◌%◌, ◌^◌, ◌<◌, ◌≤◌, min, max, ℤ, pos, negsuc, arith, refl, sym, ap, ◌∙◌, ap₂, inl, inr, if◌then◌else◌, ◌==◌}
use Rattle.std.specs.Int.{bit_at, Width, w64}
use Rattle.std.specs.Int.RustNames.{bit_and, bit_or, bit_xor}
use Rattle.std.specs.Int.Count.{count_trailing_zeros}
use mir.Val.{bits}
use lib.Count.{ones, count_leading_zeros, under}
use Rattle.std.proofs.Math.Nat.{mod-mod, mod-lt, mod-eq_of_lt, mod-one, add_comm, pow-suc, le_refl}
use Rattle.std.proofs.Math.Pow.{pow_mono}
use Rattle.std.proofs.lemmas.Bool.{cases_lt}
use Rattle.std.proofs.lemmas.Int.{ints}
use Rattle.std.proofs.lemmas.Nat.{mod-pow-add, pow_pos, shr_split, ones_cat, leading_length}
use Rattle.std.proofs.lemmas.Nat.Bits.{bit_at_cat_low, bit_at_not, bit_at_and, bit_at_or, bit_at_xor, bit_at-lt, bit_at_above, bit_at_cat_high, bit_at_lowest, bit_at-suc}
use Rattle.wgsl_rules.specs.Kinds as kinds
use Rattle.wgsl_rules.specs.Kinds.{Kind, InKind, width, is_signed, as_signed, wrap, modulo, floor_div}
use Rattle.wgsl_scalar.specs.Bits.{bit, from_bits}
use Rattle.wgsl_scalar.specs.Counts.{bit_length, bit_count, lowest_place}

-- the low bits of a number are those of what is left of it
pub bit_at-mod : (n m i : ℕ) → i < m → bit_at (n % 2 ^ m) i ≡ bit_at n i
bit_at-mod n m i h = sym (bit_at_cat_low (n / 2 ^ m) m (n % 2 ^ m) i h) ∙ ap (λ x. bit_at x i) (shr_split n m)

-- a word of a number has its low bits
pub bit_at-modulo : (w : Width) (z : ℤ) (i : ℕ) → i < bits w → bit_at (modulo z (2 ^ bits w)) i ≡ bit z i
bit_at-modulo w (pos a) i h = bit_at-mod a (bits w) i h
bit_at-modulo w (negsuc a) i h =
    bit_at_not w (a % 2 ^ bits w) i (mod-lt a (pow_pos (bits w))) h ∙ ap (λ x. 1 - x) (bit_at-mod a (bits w) i h)

pub modulo_lt : (w : Width) (z : ℤ) → modulo z (2 ^ bits w) < 2 ^ bits w
modulo_lt w (pos a) = mod-lt a (pow_pos (bits w))
modulo_lt w (negsuc a) = omega (arith, mod-lt a (pow_pos (bits w)), pow_pos (bits w))

-- ---- a number from its bits

-- the number with the bits of n is what is left of n
pub from_bits-bit_at : (w n : ℕ) → from_bits w (bit_at n) ≡ n % 2 ^ w
unfolding from_bits
from_bits-bit_at zero n = sym (mod-one n)
from_bits-bit_at (suc w) n =
    let s : 1 + w ≡ suc w = omega arith in
    ap (λ x. x + bit_at n w * 2 ^ w) (from_bits-bit_at w n)
    ∙ add_comm (n % 2 ^ w) (bit_at n w * 2 ^ w)
    ∙ sym (mod-pow-add n 1 w)
    ∙ ap (λ x. n % 2 ^ x) s

pub from_bits-same : (w : ℕ) (f g : ℕ → ℕ) → ((i : ℕ) → i < w → f i ≡ g i) → from_bits w f ≡ from_bits w g
unfolding from_bits
from_bits-same zero f g h = refl
from_bits-same (suc w) f g h =
    ap₂ (λ x y. x + y * 2 ^ w) (from_bits-same w f g (λ i l. h i (omega arith))) (h w (omega arith))

-- two numbers with the same low bits leave the same
mod-from_bits : (w n : ℕ) (f : ℕ → ℕ) → ((i : ℕ) → i < w → bit_at n i ≡ f i) → n % 2 ^ w ≡ from_bits w f % 2 ^ w
mod-from_bits w n f h =
    sym (mod-mod n (2 ^ w)) ∙ ap (λ x. x % 2 ^ w) (sym (from_bits-bit_at w n) ∙ from_bits-same w (bit_at n) f h)

-- a word whose low bits are these wraps to the number of the kind with these bits
pub wrap-bits : (k : Kind) (n : ℕ) (f : ℕ → ℕ) → ((i : ℕ) → i < width k → bit_at n i ≡ f i) → wrap k (pos n) ≡ wrap k (pos (from_bits (width k) f))
wrap-bits k n f h = ap (λ x. if is_signed k then as_signed (width k) x else pos x) (mod-from_bits (width k) n f h)

pub width_le : (k : Kind) → width k ≤ 64
width_le kinds.abstract_int = omega arith
width_le kinds.i32 = omega arith
width_le kinds.u32 = omega arith
width_le kinds.i64 = omega arith
width_le kinds.u64 = omega arith

-- the words of two numbers, joined bit by bit
pub wrap-and : (k : Kind) (a b : ℤ) → wrap k (pos (bit_and (modulo a (2 ^ 64)) (modulo b (2 ^ 64)))) ≡ wrap k (pos (from_bits (width k) (λ i. min (bit a i) (bit b i))))
wrap-and k a b =
    wrap-bits k _ _ (λ i h.
    let low : i < 64 = omega (arith, width_le k) in
    bit_at_and (modulo a (2 ^ 64)) (modulo b (2 ^ 64)) i ∙ ap₂ min (bit_at-modulo w64 a i low) (bit_at-modulo w64 b i low))

pub wrap-or : (k : Kind) (a b : ℤ) → wrap k (pos (bit_or (modulo a (2 ^ 64)) (modulo b (2 ^ 64)))) ≡ wrap k (pos (from_bits (width k) (λ i. max (bit a i) (bit b i))))
wrap-or k a b =
    wrap-bits k _ _ (λ i h.
    let low : i < 64 = omega (arith, width_le k) in
    bit_at_or (modulo a (2 ^ 64)) (modulo b (2 ^ 64)) i ∙ ap₂ max (bit_at-modulo w64 a i low) (bit_at-modulo w64 b i low))

pub wrap-xor : (k : Kind) (a b : ℤ) → wrap k (pos (bit_xor (modulo a (2 ^ 64)) (modulo b (2 ^ 64)))) ≡ wrap k (pos (from_bits (width k) (λ i. (bit a i + bit b i) % 2)))
wrap-xor k a b =
    wrap-bits k _ _ (λ i h.
    let low : i < 64 = omega (arith, width_le k) in
    bit_at_xor (modulo a (2 ^ 64)) (modulo b (2 ^ 64)) i
    ∙ ap₂ (λ x y. (x + y) % 2) (bit_at-modulo w64 a i low) (bit_at-modulo w64 b i low))

-- ---- counts

bit_count-same : (w : ℕ) (f g : ℕ → ℕ) → ((i : ℕ) → i < w → f i ≡ g i) → bit_count w f ≡ bit_count w g
unfolding bit_count
bit_count-same zero f g h = refl
bit_count-same (suc w) f g h = ap₂ (λ x y. x + y) (bit_count-same w f g (λ i l. h i (omega arith))) (h w (omega arith))

-- one digit counts itself
ones_digit : (b : ℕ) → b < 2 → ones b ≡ b
unfolding ones
ones_digit zero h = refl
ones_digit (suc zero) h = refl
ones_digit (suc (suc b)) h = absurd (omega arith)

ones-mod : (w n : ℕ) → ones (n % 2 ^ w) ≡ bit_count w (bit_at n)
unfolding bit_count
ones-mod zero n = ap ones (mod-one n) ∙ ones_digit 0 (omega arith)
ones-mod (suc w) n =
    let s : suc w ≡ 1 + w = omega arith in
    ap (λ x. ones (n % 2 ^ x)) s
    ∙ ap ones (mod-pow-add n 1 w)
    ∙ ones_cat w (bit_at n w) (n % 2 ^ w) (mod-lt n (pow_pos w))
    ∙ ap₂ (λ x y. x + y) (ones_digit (bit_at n w) (bit_at-lt n w)) (ones-mod w n)
    ∙ add_comm (bit_at n w) (bit_count w (bit_at n))

-- what the processor counts in a word is the sum of the bits
pub ones-bits : (w : Width) (z : ℤ) → ones (modulo z (2 ^ bits w)) ≡ bit_count (bits w) (bit z)
ones-bits w z =
    ap ones (sym (mod-eq_of_lt (modulo_lt w z)))
    ∙ ones-mod (bits w) (modulo z (2 ^ bits w))
    ∙ bit_count-same (bits w) (bit_at (modulo z (2 ^ bits w))) (bit z) (λ i h. bit_at-modulo w z i h)

pub bit_length-same : (w : ℕ) (f g : ℕ → ℕ) → ((i : ℕ) → i < w → f i ≡ g i) → bit_length w f ≡ bit_length w g
unfolding bit_length
bit_length-same zero f g h = refl
bit_length-same (suc w) f g h =
    ap₂ (λ x y. if x == 1 then suc w else y) (h w (omega arith)) (bit_length-same w f g (λ i l. h i (omega arith)))

-- the highest of suc w bits
bit_at_top : (w n : ℕ) → n < 2 ^ suc w → 2 ^ w ≤ n → bit_at n w ≡ 1
bit_at_top w n a h =
    let rest : n - 2 ^ w < 2 ^ w = omega (arith, pow-suc 2 w) in
    let split : n ≡ 1 * 2 ^ w + (n - 2 ^ w) = omega arith in
    let none : w - w ≡ 0 = omega arith in
    ap (λ x. bit_at x w) split ∙ bit_at_cat_high 1 w (n - 2 ^ w) w rest (le_refl w) ∙ ap (bit_at 1) none

-- a power that is at most twice a number of w bits, and one more
fewer_bits : (w n m : ℕ) → n < 2 ^ w → 2 ^ m ≤ 2 * n + 1 → m ≤ suc w → m ≤ w
fewer_bits w n m small d e =
    elim (cases_lt w m) [
      | inl l ↦ let p : 2 ^ suc w ≤ 2 ^ m = pow_mono l in absurd (omega (arith, p, pow-suc 2 w))
      | inr l ↦ l
    ]

all_bits : (w n m : ℕ) → 2 ^ w ≤ n → n < 2 ^ m → m ≤ suc w → m ≡ suc w
all_bits w n m big b e =
    elim (cases_lt w m) [
      | inl l ↦ omega arith
      | inr l ↦ let p : 2 ^ m ≤ 2 ^ w = pow_mono l in absurd (omega arith)
    ]

-- the length in bits, from the powers that the number lies between
pub bit_length-is : (w n m : ℕ) → n < 2 ^ w → n < 2 ^ m → 2 ^ m ≤ 2 * n + 1 → m ≤ w → bit_length w (bit_at n) ≡ m
unfolding bit_length
bit_length-is zero n m a b d e = omega arith
bit_length-is (suc w) n m a b d e =
    elim (cases_lt n (2 ^ w)) [
      | inl small ↦
          rw (bit_at_above n w w small (le_refl w)) (bit_length-is w n m small b d (fewer_bits w n m small d e))
      | inr big ↦ rw (bit_at_top w n a big) (sym (all_bits w n m big b e))
    ]

-- what the processor counts above the highest 1 of a word
pub leading-bits : (w : Width) (z : ℤ) → count_leading_zeros (bits w) (modulo z (2 ^ bits w)) ≡ bits w - bit_length (bits w) (bit z)
leading-bits w z =
    let n = modulo z (2 ^ bits w) in
    let (m, fits, below, above) = leading_length (bits w) n (modulo_lt w z) in
    let same = bit_length-same (bits w) (bit_at n) (bit z) (λ i h. bit_at-modulo w z i h) in
    let is : bit_length (bits w) (bit_at n) ≡ m = bit_length-is (bits w) n m (modulo_lt w z) below above (omega (arith, fits)) in
    omega (arith, fits, same, is)

lowest_place-same : (w : ℕ) (f g : ℕ → ℕ) → ((i : ℕ) → i < w → f i ≡ g i) → lowest_place w f ≡ lowest_place w g
unfolding lowest_place
lowest_place-same zero f g h = refl
lowest_place-same (suc w) f g h =
    ap₂ (λ x y. if x == 1 then 0 else suc y) (h 0 (omega arith)) (lowest_place-same w (λ i. f (suc i)) (λ i. g (suc i)) (λ i l. h (suc i) (omega arith)))

-- one digit, and how many zeros stand below the lowest 1 of the rest
under_digit : (d t : ℕ) → d < 2 → under d t ≡ (if d == 1 then 0 else suc t)
under_digit zero t h = refl
under_digit (suc zero) t h = refl
under_digit (suc (suc d)) t h = absurd (omega arith)

trailing-bit_at : (w n : ℕ) → count_trailing_zeros w n ≡ lowest_place w (bit_at n)
unfolding count_trailing_zeros lowest_place
trailing-bit_at zero n = refl
trailing-bit_at (suc w) n =
    under_digit (n % 2) (count_trailing_zeros w (n / 2)) (mod-lt n (omega arith))
    ∙ ap₂ (λ x y. if x == 1 then 0 else suc y) (sym (bit_at_lowest n)) (trailing-bit_at w (n / 2) ∙ lowest_place-same w (bit_at (n / 2)) (λ i. bit_at n (suc i)) (λ i l. sym (bit_at-suc n i)))

-- what the processor counts below the lowest 1 of a word
pub trailing-bits : (w : Width) (z : ℤ) → count_trailing_zeros (bits w) (modulo z (2 ^ bits w)) ≡ lowest_place (bits w) (bit z)
trailing-bits w z =
    trailing-bit_at (bits w) (modulo z (2 ^ bits w))
    ∙ lowest_place-same (bits w) (bit_at (modulo z (2 ^ bits w))) (bit z) (λ i h. bit_at-modulo w z i h)

-- ---- a count is at most the width

pub bit_lt : (z : ℤ) (i : ℕ) → bit z i < 2
bit_lt z i = modulo_two (floor_div z (2 ^ i))
  where
    modulo_two : (y : ℤ) → modulo y 2 < 2
    modulo_two (pos a) = mod-lt a (omega arith)
    modulo_two (negsuc a) = omega arith

pub bit_length_le : (w : ℕ) (f : ℕ → ℕ) → bit_length w f ≤ w
unfolding bit_length
bit_length_le zero f = omega arith
bit_length_le (suc w) f = grind (arith, bit_length_le w f)

pub bit_count_le : (w : ℕ) (z : ℤ) → bit_count w (bit z) ≤ w
unfolding bit_count
bit_count_le zero z = omega arith
bit_count_le (suc w) z = omega (arith, bit_count_le w z, bit_lt z w)

pub lowest_place_le : (w : ℕ) (f : ℕ → ℕ) → lowest_place w f ≤ w
unfolding lowest_place
lowest_place_le zero f = omega arith
lowest_place_le (suc w) f = grind (arith, lowest_place_le w (λ i. f (suc i)))

pub few : (k : Kind) (n : ℕ) → n ≤ 64 → InKind k (pos n)
few kinds.abstract_int n h = grind (arith, ints)
few kinds.i32 n h = grind (arith, ints)
few kinds.u32 n h = grind (arith, ints)
few kinds.i64 n h = grind (arith, ints)
few kinds.u64 n h = grind (arith, ints)
