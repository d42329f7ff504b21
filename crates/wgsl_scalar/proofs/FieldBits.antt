-- The bits of the words that fields of bits, first bits and bits in reverse are made of.
use Rattle.std.proofs.Common.{◌≡◌, ℕ, zero, suc, ◌+◌, ◌-◌, ◌*◌, ◌/◌, ◌%◌, ◌^◌, ◌<◌, ◌≤◌, min, max, ℤ, pos, negsuc, ◌-ℤ◌, Bool, true, false, nat_lt, nat_eq, ◌&&◌, arith, refl, sym, ap, ap₂, ◌∙◌, inl, inr, if◌then◌else◌}
use Rattle.std.specs.Prelude.{nat_le}
use Rattle.std.specs.Int.{bit_at, w32, w64, reverse_bits, reverse_bits_onto}
use Rattle.std.specs.Int.RustNames.{bit_and, bit_or}
use Rattle.std.proofs.Math.Nat.{mod-lt, pow-suc}
use Rattle.std.proofs.Math.Pow.{pow_mono}
use Rattle.std.proofs.lemmas.Bool.{cases_lt, ltb-true, ltb-false}
use Rattle.std.proofs.lemmas.Bool.Decides.{nat_tests}
use Rattle.std.proofs.lemmas.Int.{ints}
use Rattle.std.proofs.lemmas.Nat.{pow_pos, shr_split}
use Rattle.std.proofs.lemmas.Nat.Bits.{bit_at_cat_low, bit_at_cat_high, bit_at_not, bit_at_and, bit_at_or, bit_at-lt, bit_at-zero, shr_and_one, bit_at_ones, bit_at_ones_above, bit_at_lowest, bit_at-suc}
use Rattle.wgsl_rules.specs.Kinds as kinds
use Rattle.wgsl_rules.specs.Kinds.{Kind, InKind, width, is_signed, wrap, modulo}
use Rattle.wgsl_rules.proofs.lemmas.Tests.{inside}
use Rattle.wgsl_scalar.specs.Bits.{bit, from_bits}
use Rattle.wgsl_scalar.specs.BitFields.{bit_above, turned}
use Rattle.wgsl_scalar.specs.Counts.{bit_length, leading_zeros_in}
use Rattle.wgsl_scalar.proofs.lemmas.BitLaws.{bit_at-mod, bit_at-modulo, from_bits-same, wrap-bits, bit_length-same, bit_length_le, bit_lt}

-- ---- tests

choose : {A : Type 0} (b : Bool) (z x y : A) → (b ≡ true → z ≡ x) → (b ≡ false → z ≡ y) → z ≡ (if b then x else y)
choose true z x y f g = f refl
choose false z x y f g = g refl

both : {A : Type 0} (b : Bool) (x y u v : A) → (b ≡ true → x ≡ u) → (b ≡ false → y ≡ v) → (if b then x else y) ≡ (if b then u else v)
both true x y u v f g = f refl
both false x y u v f g = g refl

outside : (o w i : ℕ) → (nat_le o i && nat_lt i (o + w)) ≡ false → o ≤ i → o + w ≤ i
outside o w i h l = grind (arith, nat_tests)

taken : {A : Type 0} (b : Bool) (x y : A) → b ≡ true → (if b then x else y) ≡ x
taken true x y h = refl
taken false x y h = absurd (cc)

left : {A : Type 0} (b : Bool) (x y : A) → b ≡ false → (if b then x else y) ≡ y
left true x y h = absurd (cc)
left false x y h = refl

-- ---- shifts and masks of words

bit_at-shr : (n s i : ℕ) → bit_at (n / 2 ^ s) i ≡ bit_at n (s + i)
bit_at-shr n s i =
    let back : s + i - s ≡ i = omega arith in
    let l : s ≤ s + i = omega arith in
    ap (bit_at (n / 2 ^ s)) (sym back)
    ∙ sym (bit_at_cat_high (n / 2 ^ s) s (n % 2 ^ s) (s + i) (mod-lt n (pow_pos s)) l)
    ∙ ap (λ x. bit_at x (s + i)) (shr_split n s)

bit_at-shl_low : (n s i : ℕ) → i < s → i < 64 → bit_at (n * 2 ^ s % 2 ^ 64) i ≡ 0
bit_at-shl_low n s i l h =
    let whole : n * 2 ^ s ≡ n * 2 ^ s + 0 = omega arith in
    bit_at-mod (n * 2 ^ s) 64 i h ∙ ap (λ x. bit_at x i) whole ∙ bit_at_cat_low n s 0 i l ∙ bit_at-zero i

bit_at-shl_high : (n s i : ℕ) → s ≤ i → i < 64 → bit_at (n * 2 ^ s % 2 ^ 64) i ≡ bit_at n (i - s)
bit_at-shl_high n s i l h =
    let whole : n * 2 ^ s ≡ n * 2 ^ s + 0 = omega arith in
    bit_at-mod (n * 2 ^ s) 64 i h ∙ ap (λ x. bit_at x i) whole ∙ bit_at_cat_high n s 0 i (pow_pos s) l

kept : (b : ℕ) → b < 2 → min b 1 ≡ b
kept b h = omega arith

gone : (b : ℕ) → min b 0 ≡ 0
gone b = omega arith

-- the bits of a field, from place 0 on
pub field-bits : (n o w i : ℕ) → bit_at (bit_and (n / 2 ^ o) (2 ^ w - 1)) i ≡ (if nat_lt i w then bit_at n (o + i) else 0)
field-bits n o w i =
    bit_at_and (n / 2 ^ o) (2 ^ w - 1) i
    ∙ choose (nat_lt i w) _ _ _
    (λ t. ap₂ min (bit_at-shr n o i) (bit_at_ones w i (ltb-true i w t)) ∙ kept (bit_at n (o + i)) (bit_at-lt n (o + i)))
    (λ t. ap (min (bit_at (n / 2 ^ o) i)) (bit_at_ones_above w i (ltb-false i w t)) ∙ gone (bit_at (n / 2 ^ o) i))

ones_lt : (w : ℕ) → w ≤ 64 → 2 ^ w - 1 < 2 ^ 64
ones_lt w h = let p : 2 ^ w ≤ 2 ^ 64 = pow_mono h in omega (arith, pow_pos w)

-- with ones above them
pub filled-bits : (n w i : ℕ) → w ≤ 64 → i < 64 → bit_at (bit_or n (2 ^ 64 - 1 - (2 ^ w - 1))) i ≡ (if nat_lt i w then bit_at n i else 1)
filled-bits n w i f h =
    bit_at_or n (2 ^ 64 - 1 - (2 ^ w - 1)) i
    ∙ ap (max (bit_at n i)) (bit_at_not w64 (2 ^ w - 1) i (ones_lt w f) h)
    ∙ choose (nat_lt i w) _ _ _
    (λ t. ap (λ x. max (bit_at n i) (1 - x)) (bit_at_ones w i (ltb-true i w t)) ∙ more (bit_at n i))
    (λ t. ap (λ x. max (bit_at n i) (1 - x)) (bit_at_ones_above w i (ltb-false i w t)) ∙ most (bit_at n i) (bit_at-lt n i))
  where
    more : (b : ℕ) → max b 0 ≡ b
    more b = omega arith

    most : (b : ℕ) → b < 2 → max b 1 ≡ 1
    most b l = omega arith

-- the word with the field of another
pub replaced-bits : (n y o w i : ℕ) → i < 64
    → bit_at (bit_or (bit_and n (2 ^ 64 - 1 - (2 ^ w - 1) * 2 ^ o % 2 ^ 64)) (bit_and (y * 2 ^ o % 2 ^ 64) ((2 ^ w - 1) * 2 ^ o % 2 ^ 64))) i
    ≡ (if nat_le o i && nat_lt i (o + w) then bit_at y (i - o) else bit_at n i)
replaced-bits n y o w i h =
    let m = (2 ^ w - 1) * 2 ^ o % 2 ^ 64 in
    let l : m < 2 ^ 64 = mod-lt ((2 ^ w - 1) * 2 ^ o) (pow_pos 64) in
    bit_at_or (bit_and n (2 ^ 64 - 1 - m)) (bit_and (y * 2 ^ o % 2 ^ 64) m) i
    ∙ ap₂ max (bit_at_and n (2 ^ 64 - 1 - m) i ∙ ap (min (bit_at n i)) (bit_at_not w64 m i l h)) (bit_at_and (y * 2 ^ o % 2 ^ 64) m i)
    ∙ choose (nat_le o i && nat_lt i (o + w)) _ _ _
    (λ t.
    let (from, to) = inside o w i t in
    let place : i - o < w = omega arith in
    let one : bit_at m i ≡ 1 = bit_at-shl_high (2 ^ w - 1) o i from h ∙ bit_at_ones w (i - o) place in
    rw (one, bit_at-shl_high y o i from h) (new (bit_at n i) (bit_at y (i - o)) (bit_at-lt y (i - o))))
    (λ t.
    let none : bit_at m i ≡ 0 = elim (cases_lt i o) [
      | inl low ↦ bit_at-shl_low (2 ^ w - 1) o i low h
      | inr high ↦
          let past = outside o w i t high in
          let place : w ≤ i - o = omega arith in
          bit_at-shl_high (2 ^ w - 1) o i high h ∙ bit_at_ones_above w (i - o) place
    ] in
    rw none (old (bit_at n i) (bit_at (y * 2 ^ o % 2 ^ 64) i) (bit_at-lt n i)))
  where
    new : (a b : ℕ) → b < 2 → max (min a (1 - 1)) (min b 1) ≡ b
    new a b l = omega arith

    old : (a b : ℕ) → a < 2 → max (min a (1 - 0)) (min b 0) ≡ a
    old a b l = omega arith

-- ---- the numbers that the words stand for

-- a word with the bits of a field, and above them the bit that stands above the field
extracted-wrap : (k : Kind) (z : ℤ) (o w n : ℕ) → width k ≡ 32 → o + w ≤ 32
    → ((i : ℕ) → i < 64 → bit_at n i ≡ (if nat_lt i w then bit_at (modulo z (2 ^ 64)) (o + i) else bit_above k z o w))
    → wrap k (pos n) ≡ wrap k (pos (from_bits (width k) (λ i. if nat_lt i w then bit z (o + i) else bit_above k z o w)))
extracted-wrap k z o w n e f h =
    wrap-bits k n _ (λ i l.
    let low : i < 64 = omega arith in
    h i low ∙ both (nat_lt i w) _ _ _ _ (λ t. let inner = ltb-true i w t in bit_at-modulo w64 z (o + i) (omega arith)) (λ t. refl))

abbrev pub AreFieldBits : ℕ → ℕ → ℕ → ℕ → Type 0
AreFieldBits n o w m = (i : ℕ) → bit_at m i ≡ (if nat_lt i w then bit_at n (o + i) else 0)

-- where zeros stand above the field
pub plain-wrap : (k : Kind) (z : ℤ) (o w v m : ℕ) → width k ≡ 32 → o + w ≤ 32 → v ≡ modulo z (2 ^ 64) → AreFieldBits v o w m → bit_above k z o w ≡ 0
    → wrap k (pos m) ≡ wrap k (pos (from_bits (width k) (λ i. if nat_lt i w then bit z (o + i) else bit_above k z o w)))
plain-wrap k z o w v m e f b h a =
    extracted-wrap k z o w m e f (λ i l. h i ∙ both (nat_lt i w) _ _ _ _ (λ t. ap (λ x. bit_at x (o + i)) b) (λ t. sym a))

-- where ones stand above it
pub filled-wrap : (k : Kind) (z : ℤ) (o w v m n : ℕ) → width k ≡ 32 → o + w ≤ 32 → v ≡ modulo z (2 ^ 64) → AreFieldBits v o w m
    → ((i : ℕ) → i < 64 → bit_at n i ≡ (if nat_lt i w then bit_at m i else 1)) → bit_above k z o w ≡ 1
    → wrap k (pos n) ≡ wrap k (pos (from_bits (width k) (λ i. if nat_lt i w then bit z (o + i) else bit_above k z o w)))
filled-wrap k z o w v m n e f b h g a =
    extracted-wrap k z o w n e f (λ i l.
    g i l ∙ both (nat_lt i w) _ _ _ _ (λ t. h i ∙ taken (nat_lt i w) _ 0 t ∙ ap (λ x. bit_at x (o + i)) b) (λ t. sym a))

digit : (b : ℕ) → b < 2 → b ≡ (if nat_eq b 1 then 1 else 0)
digit b h = grind (arith, nat_tests)

-- the test of the bit that stands above a field
pub above-is : (k : Kind) (z : ℤ) (o w : ℕ) → is_signed k ≡ true → 0 < w → o + w ≤ 32
    → bit_above k z o w ≡ (if nat_eq (bit_and (modulo z (2 ^ 64) / 2 ^ (o + w - 1)) 1) 1 then 1 else 0)
above-is k z o w s h f =
    let top = o + w - 1 in
    let low : top < 64 = omega arith in
    let same : bit_and (modulo z (2 ^ 64) / 2 ^ top) 1 ≡ bit z top = shr_and_one (modulo z (2 ^ 64)) top ∙ bit_at-modulo w64 z top low in
    let some : nat_lt 0 w ≡ true = grind (arith, nat_tests) in
    let holds : (is_signed k && nat_lt 0 w) ≡ true = rw (s, some) refl in
    taken (is_signed k && nat_lt 0 w) (bit z top) 0 holds
    ∙ digit (bit z top) (bit_lt z top)
    ∙ ap (λ x. if nat_eq x 1 then 1 else 0) (sym same)

-- a word with the field of another
pub inserted-wrap : (k : Kind) (z y : ℤ) (o w m v n : ℕ) → width k ≡ 32 → m ≡ modulo z (2 ^ 64) → v ≡ modulo y (2 ^ 64)
    → ((i : ℕ) → i < 64 → bit_at n i ≡ (if nat_le o i && nat_lt i (o + w) then bit_at v (i - o) else bit_at m i))
    → wrap k (pos n) ≡ wrap k (pos (from_bits (width k) (λ i. if nat_le o i && nat_lt i (o + w) then bit y (i - o) else bit z i)))
inserted-wrap k z y o w m v n e a b h =
    wrap-bits k n _ (λ i l.
    let low : i < 64 = omega arith in
    h i low ∙ both (nat_le o i && nat_lt i (o + w)) _ _ _ _
    (λ t. ap (λ x. bit_at x (i - o)) b ∙ bit_at-modulo w64 y (i - o) (omega arith))
    (λ t. ap (λ x. bit_at x i) a ∙ bit_at-modulo w64 z i low))

-- ---- bits in reverse

spread : (a d p q f g : ℕ) → q ≡ p * 2 → f ≡ g → (a * 2 + d) * p + f ≡ a * q + (g + d * p)
spread a d p q f g e h = rw (e, h) (omega arith)

onto-is : (k n a : ℕ) → reverse_bits_onto k n a ≡ a * 2 ^ k + from_bits k (λ i. bit_at n (k - 1 - i))
unfolding reverse_bits_onto from_bits
onto-is zero n a = omega arith
onto-is (suc k) n a =
    let last : suc k - 1 - k ≡ 0 = omega arith in
    let same = from_bits-same k (λ i. bit_at (n / 2) (k - 1 - i)) (λ i. bit_at n (suc k - 1 - i)) (λ i l.
    let next : suc (k - 1 - i) ≡ suc k - 1 - i = omega arith in
    sym (bit_at-suc n (k - 1 - i)) ∙ ap (bit_at n) next) in
    onto-is k (n / 2) (a * 2 + n % 2)
    ∙ spread a (n % 2) (2 ^ k) (2 ^ suc k) _ _ (pow-suc 2 k) same
    ∙ ap (λ x. a * 2 ^ suc k + (from_bits k (λ i. bit_at n (suc k - 1 - i)) + x * 2 ^ k)) (sym (bit_at_lowest n) ∙ ap (bit_at n) (sym last))

nothing_before : (n : ℕ) → 0 * 2 ^ 32 + n ≡ n
nothing_before n = omega arith

pub reversed-wrap : (k : Kind) (z : ℤ) → width k ≡ 32 → wrap k (pos (reverse_bits w32 (modulo z (2 ^ 32)))) ≡ wrap k (pos (from_bits (width k) (λ i. bit z (31 - i))))
reversed-wrap k z e =
    let n = modulo z (2 ^ 32) in
    let same = from_bits-same 32 (λ i. bit_at n (31 - i)) (λ i. bit z (31 - i)) (λ i l. bit_at-modulo w32 z (31 - i) (omega arith)) in
    ap (λ x. wrap k (pos x)) (onto-is 32 n 0 ∙ nothing_before (from_bits 32 (λ i. bit_at n (31 - i))) ∙ same) ∙ ap (λ x. wrap k (pos (from_bits x (λ i. bit z (31 - i))))) (sym e)

-- ---- the first bit

from_length : (l n : ℕ) (z : ℤ) → n ≤ 32 → pos l ≡ pos (32 - n) → pos 31 -ℤ pos l ≡ pos n -ℤ pos 1
from_length l n z h e = omega (arith, ints)

abbrev other_bits : Kind → ℤ → ℕ → ℕ
other_bits k z i = if is_signed k then (bit z i + bit z 31) % 2 else bit z i

-- the highest of those bits, from how many zeros stand above it
pub first_leading-is : (k : Kind) (z : ℤ) (l : ℕ) → width k ≡ 32 → InKind k z → pos l ≡ leading_zeros_in k (turned z)
    → pos 31 -ℤ pos l ≡ pos (bit_length 32 (λ i. if is_signed k then (bit z i + bit z 31) % 2 else bit z i)) -ℤ pos 1
first_leading-is kinds.u32 (pos n) l e h f = from_length l _ (pos n) (bit_length_le 32 (bit (pos n))) f
first_leading-is kinds.u32 (negsuc n) l e h f = absurd (cc)
first_leading-is kinds.i32 (pos n) l e h f =
    let small : n < 2 ^ 31 = grind (arith, ints) in
    let none : bit (pos n) 31 ≡ 0 = omega arith in
    let same = bit_length-same 32 (bit (pos n)) (other_bits kinds.i32 (pos n)) (λ i t. rw none (positive (bit (pos n) i) (bit_lt (pos n) i))) in
    from_length l _ (pos n) (bit_length_le 32 (other_bits kinds.i32 (pos n))) (f ∙ ap (λ x. pos (32 - x)) same)
  where
    positive : (b : ℕ) → b < 2 → b ≡ (b + 0) % 2
    positive b t = omega arith
first_leading-is kinds.i32 (negsuc n) l e h f =
    let small : n < 2 ^ 31 = grind (arith, ints) in
    let one : bit (negsuc n) 31 ≡ 1 = omega arith in
    let same = bit_length-same 32 (bit (pos n)) (other_bits kinds.i32 (negsuc n)) (λ i t. rw one (negative (bit (pos n) i) (bit_lt (pos n) i))) in
    from_length l _ (pos n) (bit_length_le 32 (other_bits kinds.i32 (negsuc n))) (f ∙ ap (λ x. pos (32 - x)) same)
  where
    negative : (b : ℕ) → b < 2 → b ≡ (2 - 1 - b + 1) % 2
    negative b t = omega arith
first_leading-is k z l e h f = absurd (omega arith)
