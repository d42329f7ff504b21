-- Magnitudes, signs and counts of bits (WGSL: numeric builtin functions).
use Rattle.std.specs.Prelude.{ℕ, zero, suc, ◌+◌, ◌-◌, ◌==◌, ℤ, pos, negsuc, unsigned_abs, if◌then◌else◌, Ok}
use Rattle.wgsl_rules.specs.Kinds.{Kind, width, wrap}
use Rattle.wgsl_rules.specs.Values.{Val, number}
use Rattle.wgsl_rules.specs.Refusals.{Outcome, and_then, builtin}
use Rattle.wgsl_scalar.specs.Literals.{number_of}
use Rattle.wgsl_scalar.specs.Operands.{ok_or}
use Rattle.wgsl_scalar.specs.Bits.{bit}

-- the number of the same kind that a function gives
abbrev pub with_number : (Kind → ℤ → ℤ) → Val → Outcome Val
with_number f v = and_then (ok_or builtin (number_of v)) (λ n. Ok (number n.kind (f n.kind n.value)))

abbrev pub magnitude_in : Kind → ℤ → ℤ
magnitude_in k z = wrap k (pos (unsigned_abs z))

-- -1, 0 or 1
abbrev pub sign_of : ℤ → ℤ
sign_of (pos zero) = pos 0
sign_of (pos (suc n)) = pos 1
sign_of (negsuc n) = negsuc 0

-- one more than the highest place below w with a 1, or 0 where there is none
unfoldable pub bit_length : ℕ → (ℕ → ℕ) → ℕ
bit_length zero f = 0
bit_length (suc w) f = if f w == 1 then suc w else bit_length w f

-- how many of the places below w have a 1
unfoldable pub bit_count : ℕ → (ℕ → ℕ) → ℕ
bit_count zero f = 0
bit_count (suc w) f = bit_count w f + f w

-- the lowest place below w with a 1, or w where there is none
unfoldable pub lowest_place : ℕ → (ℕ → ℕ) → ℕ
lowest_place zero f = 0
lowest_place (suc w) f = if f 0 == 1 then 0 else suc (lowest_place w (λ i. f (suc i)))

abbrev pub leading_zeros_in : Kind → ℤ → ℤ
leading_zeros_in k z = pos (width k - bit_length (width k) (bit z))

abbrev pub one_bits_in : Kind → ℤ → ℤ
one_bits_in k z = pos (bit_count (width k) (bit z))

abbrev pub trailing_zeros_in : Kind → ℤ → ℤ
trailing_zeros_in k z = pos (lowest_place (width k) (bit z))

abbrev pub magnitude : Val → Outcome Val
magnitude v = with_number magnitude_in v

abbrev pub sign : Val → Outcome Val
sign v = with_number (λ k z. sign_of z) v

abbrev pub leading_zeros : Val → Outcome Val
leading_zeros v = with_number leading_zeros_in v

abbrev pub one_bits : Val → Outcome Val
one_bits v = with_number one_bits_in v

abbrev pub trailing_zeros : Val → Outcome Val
trailing_zeros v = with_number trailing_zeros_in v
