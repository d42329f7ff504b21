-- Several bytes in one number, of which one test tells something.
use lib.Utf8.{encode}
use Rattle.std.proofs.Common.{◌≡◌, ℕ, ◌+◌, ◌*◌, ◌/◌, ◌%◌, ◌^◌, ◌<◌, ◌≤◌, zero, suc, max, ◌⊎◌, bit_and, bit_or, inl, inr, sym, ◌∙◌, ap, arith}
use Rattle.std.proofs.lemmas.Bool.{cases_lt}
use Rattle.std.proofs.lemmas.Grind.{common_steps}
use Rattle.std.proofs.lemmas.Nat.{and_block, or_shr}
use Rattle.std.proofs.lemmas.Nat.Bits.{and_pow, bit_at_or}
use Rattle.std.specs.Int.{bit_at}
use Rattle.std.specs.Prelude.{false}
use Rattle.wgsl_source.specs.Bytes.{may_begin_line_break}

-- the number of n bytes, the lowest first
abbrev pub number_of : (ℕ → ℕ) → ℕ → ℕ
number_of byte zero = 0
number_of byte (suc n) = byte 0 + 256 * number_of (λ k. byte (suc k)) n

-- n bytes that are alike
abbrev pub repeated : ℕ → ℕ → ℕ
repeated byte zero = 0
repeated byte (suc n) = byte + 256 * repeated byte n

-- how many numbers n bytes have
abbrev pub numbers : ℕ → ℕ
numbers zero = 1
numbers (suc n) = 256 * numbers n

-- the highest bit is not set in the n lowest bytes
abbrev pub AreLow : ℕ → ℕ → Type 0
AreLow zero x = Unit {0}
AreLow (suc n) x = (x / 128 % 2 ≡ 0) × AreLow n (x / 256)

-- a difference as it wraps
abbrev pub IsDifference : ℕ → ℕ → ℕ → ℕ → Type 0
IsDifference numbers x y d = (d < numbers) × ((d + y ≡ x) ⊎ (d + y ≡ x + numbers))

-- what is left of a sum with what is wanting to 2 ^ 64
pub difference_of : (x d : ℕ) → x < 18446744073709551616 → d ≡ (x + 17433981653976478194) % 18446744073709551616 → IsDifference (numbers 8) x (repeated 14 8) d
difference_of x d below e =
    elim (cases_lt x (repeated 14 8)) [ inl less ↦ (omega arith, inr (omega arith)) | inr more ↦ (omega arith, inl (omega arith)) ]

low_byte : (a r : ℕ) → a * 2 ^ 8 + bit_and r 128 ≡ 0 → bit_and r (2 ^ 7) ≡ bit_at r 7 * 2 ^ 7 → (a ≡ 0) × (r / 128 % 2 ≡ 0)
low_byte a r h e = (omega arith, omega arith)

pub low_from_mask : (n x : ℕ) → bit_and x (repeated 128 n) ≡ 0 → AreLow n x
low_from_mask zero x h = tt
low_from_mask (suc n) x h =
    let split : x ≡ x / 256 * 2 ^ 8 + x % 256 = omega arith in
    let mask : repeated 128 (suc n) ≡ repeated 128 n * 2 ^ 8 + 128 = omega arith in
    let blocks = and_block 8 (x / 256) (repeated 128 n) (x % 256) 128 (omega arith) (omega arith) in
    let both : bit_and x (repeated 128 (suc n)) ≡ bit_and (x / 256) (repeated 128 n) * 2 ^ 8 + bit_and (x % 256) 128 =
    ap (λ y. bit_and y (repeated 128 (suc n))) split ∙ ap (bit_and (x / 256 * 2 ^ 8 + x % 256)) mask ∙ blocks in
    let low = low_byte (bit_and (x / 256) (repeated 128 n)) (x % 256) (sym both ∙ h) (and_pow (x % 256) 7) in
    (omega (arith, low.1), low_from_mask n (x / 256) low.0)

pub low_parts : (n x y : ℕ) → AreLow n (bit_or x y) → AreLow n x × AreLow n y
low_parts zero x y low = (tt, tt)
low_parts (suc n) x y low =
    let highest : max (bit_at x 7) (bit_at y 7) ≡ 0 = sym (bit_at_or x y 7) ∙ low.0 in
    let rest = low_parts n (x / 256) (y / 256) (rw (← or_shr x y 8) low.1) in
    ((omega (arith, highest), rest.0), (omega (arith, highest), rest.1))

step : (b x y m d : ℕ) → b < 256 → IsDifference (256 * m) (b + 256 * x) (14 + 256 * y) d → d / 128 % 2 ≡ 0 → (b + 256 * x) / 128 % 2 ≡ 0 → (14 ≤ b) × (b < 128) × IsDifference m x y (d / 256)
step b x y m d small (below, inl e) low_d low_x = (omega arith, omega arith, (omega arith, inl (omega arith)))
step b x y m d small (below, inr e) low_d low_x = (omega arith, omega arith, (omega arith, inr (omega arith)))

-- where neither n bytes nor they less 14 have a highest bit set, each is ASCII and at least 14
pub passed : (n : ℕ) (byte : ℕ → ℕ) (d : ℕ) → ((k : ℕ) → byte k < 256) → IsDifference (numbers n) (number_of byte n) (repeated 14 n) d → AreLow n d → AreLow n (number_of byte n) → (k : ℕ) → k < n → (14 ≤ byte k) × (byte k < 128)
passed zero byte d small is low_d low_x k h = absurd (omega arith)
passed (suc n) byte d small is low_d low_x zero h =
    let s = step (byte 0) (number_of (λ k. byte (suc k)) n) (repeated 14 n) (numbers n) d (small 0) is low_d.0 low_x.0 in
    (s.0, s.1)
passed (suc n) byte d small is low_d low_x (suc k) h =
    let x = number_of (λ k. byte (suc k)) n in
    let s = step (byte 0) x (repeated 14 n) (numbers n) d (small 0) is low_d.0 low_x.0 in
    let same : number_of byte (suc n) / 256 ≡ x = omega (arith, small 0) in
    passed n (λ k. byte (suc k)) (d / 256) (λ k. small (suc k)) s.2 low_d.1 (rw (← same) low_x.1) k (omega arith)

pub no_break : (byte : ℕ) → 14 ≤ byte → byte < 128 → may_begin_line_break byte ≡ false
unfolding encode
no_break byte h l = grind (arith, common_steps)
