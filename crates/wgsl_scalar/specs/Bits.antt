-- The bits of numbers (WGSL: bit expressions).
use Rattle.std.specs.Prelude.{ℕ, zero, suc, ◌+◌, ◌*◌, ◌%◌, ◌^◌, min, max, ℤ, pos, negsuc, ◌-ℤ◌, ◌&&◌, ◌||◌, Ok}
use Rattle.wgsl_rules.specs.Kinds.{Kind, width, wrap, modulo, floor_div}
use Rattle.wgsl_rules.specs.Values.{Val, truth, number, type_of}
use Rattle.wgsl_rules.specs.Refusals.{Outcome, and_then, unary}
use Rattle.wgsl_rules.specs.declared.syntax.UnaryOperator.TheVariants as before
use Rattle.wgsl_rules.specs.declared.syntax.BinaryOperator.TheVariants as between
use Rattle.wgsl_scalar.specs.Literals.{number_of}
use Rattle.wgsl_scalar.specs.Operands.{ok_or, with_operands, both_truths, of_truths}

-- bit i of z
abbrev pub bit : ℤ → ℕ → ℕ
bit z i = modulo (floor_div z (2 ^ i)) 2

-- the number below 2 ^ w with these bits
unfoldable pub from_bits : ℕ → (ℕ → ℕ) → ℕ
from_bits zero f = 0
from_bits (suc w) f = from_bits w f + f w * 2 ^ w

-- the number of the kind with these bits
abbrev pub with_bits : Kind → (ℕ → ℕ) → Val
with_bits k f = number k (wrap k (pos (from_bits (width k) f)))

-- a bit is in both, in either, in one alone
abbrev pub bits_and_in : Kind → ℤ → ℤ → Outcome Val
bits_and_in k a b = Ok (with_bits k (λ i. min (bit a i) (bit b i)))

abbrev pub bits_or_in : Kind → ℤ → ℤ → Outcome Val
bits_or_in k a b = Ok (with_bits k (λ i. max (bit a i) (bit b i)))

abbrev pub bits_xor_in : Kind → ℤ → ℤ → Outcome Val
bits_xor_in k a b = Ok (with_bits k (λ i. (bit a i + bit b i) % 2))

-- a bool is one bit
abbrev pub bits_and : Val → Val → Outcome Val
bits_and v w = of_truths (λ a b. Ok (truth (a && b))) (both_truths v w) (with_operands between.BitwiseAnd bits_and_in v w)

abbrev pub bits_or : Val → Val → Outcome Val
bits_or v w = of_truths (λ a b. Ok (truth (a || b))) (both_truths v w) (with_operands between.BitwiseOr bits_or_in v w)

abbrev pub bits_xor : Val → Val → Outcome Val
bits_xor v w = with_operands between.BitwiseXor bits_xor_in v w

-- each bit turned: -1 - z
abbrev pub complement_in : Kind → ℤ → Outcome Val
complement_in k z = Ok (number k (wrap k (negsuc 0 -ℤ z)))

abbrev pub complement : Val → Outcome Val
complement v = and_then (ok_or (unary before.BitwiseComplement (type_of v)) (number_of v)) (λ n. complement_in n.kind n.value)
