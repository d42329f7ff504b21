-- Magnitudes, signs, the lesser and the greater, counts of bits, and sums of products
-- (WGSL: numeric builtin functions).
use Rattle.std.specs.Prelude.{[], ◌∷◌, Ok, Err}
use Rattle.wgsl_value_ops.specs.Vectors.{dot_product}
use Rattle.wgsl_rules.specs.Conversion.{common_type_of}
use Rattle.wgsl_rules.specs.Converted.{converted}
use Rattle.wgsl_rules.specs.Refusals.{Outcome, and_then, builtin}
use Rattle.wgsl_rules.specs.Types.{Ty}
use Rattle.wgsl_rules.specs.Values.{Val, vector, matrix, type_of}
use Rattle.wgsl_rules.specs.declared.syntax.ShaderStage.{ShaderStage}
use Rattle.wgsl_scalar.specs.Counts.{magnitude, sign, leading_zeros, one_bits, trailing_zeros}
use Rattle.wgsl_scalar.specs.Operands.{ok_or}
use Rattle.wgsl_scalar.specs.Order.{minimum, maximum}
use Rattle.wgsl_values.specs.Matrices.{transposed}
use Rattle.wgsl_value_builtins.specs.Lifts.{on_components, on_both, in_common_type}

-- WGSL: abs
abbrev pub magnitudes : Val → Outcome Val
magnitudes v = on_components magnitude v

-- WGSL: sign
abbrev pub signs : Val → Outcome Val
signs v = on_components sign v

-- WGSL: countLeadingZeros
abbrev pub leading_zero_counts : Val → Outcome Val
leading_zero_counts v = on_components leading_zeros v

-- WGSL: countOneBits
abbrev pub one_bit_counts : Val → Outcome Val
one_bit_counts v = on_components one_bits v

-- WGSL: countTrailingZeros
abbrev pub trailing_zero_counts : Val → Outcome Val
trailing_zero_counts v = on_components trailing_zeros v

-- by component, of both in their common type (WGSL: min)
abbrev pub lesser_of : Val → Val → Outcome Val
lesser_of v w = and_then (in_common_type v w) (λ p. on_both minimum p.0 p.1)

-- WGSL: max
abbrev pub greater_of : Val → Val → Outcome Val
greater_of v w = and_then (in_common_type v w) (λ p. on_both maximum p.0 p.1)

-- the lesser of the greater of e and low, and high
abbrev pub between : Val → Val → Val → Outcome Val
between e low high = and_then (greater_of e low) (λ v. lesser_of v high)

-- what a value is in a type
abbrev pub value_in : Ty → Val → Outcome Val
value_in t v = ok_or builtin (converted v t)

-- of all three in a type
abbrev pub clamped_in : Ty → Val → Val → Val → Outcome Val
clamped_in t e low high = and_then (value_in t e) (λ x. and_then (value_in t low) (λ y. and_then (value_in t high) (λ z. between x y z)))

-- of all three in their common type (WGSL: clamp)
abbrev pub clamped : Val → Val → Val → Outcome Val
clamped e low high =
    and_then (ok_or builtin (common_type_of (type_of e ∷ type_of low ∷ type_of high ∷ []))) (λ t. clamped_in t e low high)

-- of two vectors of one type
abbrev pub dot_of : ShaderStage → Val → Val → Outcome Val
dot_of stage (vector vs) (vector ws) = dot_product stage (vector vs) (vector ws)
dot_of stage v w = Err builtin

-- of both in their common type: all products, and then their sum from the left (WGSL: dot)
abbrev pub dotted : ShaderStage → Val → Val → Outcome Val
dotted stage v w = and_then (in_common_type v w) (λ p. dot_of stage p.0 p.1)

-- WGSL: transpose
abbrev pub transposition : Val → Outcome Val
transposition (matrix columns) = Ok (transposed (matrix columns))
transposition v = Err builtin
