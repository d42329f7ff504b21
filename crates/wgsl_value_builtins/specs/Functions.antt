-- The functions on literals that builtin functions take to values (WGSL: numeric builtin functions).
use Rattle.wgsl_rules.specs.Refusals.{Outcome}
use Rattle.wgsl_rules.specs.Values.{Val}
use Rattle.wgsl_scalar.specs.BitFields.{extracted, first_leading, first_trailing, inserted, reversed}
use Rattle.wgsl_scalar.specs.Counts.{magnitude, sign, leading_zeros, one_bits, trailing_zeros}
use Rattle.wgsl_scalar.specs.Order.{minimum, maximum}
use Rattle.wgsl_value_builtins.specs.declared.lifts.BinaryFunction.{BinaryFunction}
use Rattle.wgsl_value_builtins.specs.declared.lifts.BinaryFunction.TheVariants as between
use Rattle.wgsl_value_builtins.specs.declared.lifts.UnaryFunction.{UnaryFunction}
use Rattle.wgsl_value_builtins.specs.declared.lifts.UnaryFunction.TheVariants as before

abbrev pub unary_value : UnaryFunction → Val → Outcome Val
unary_value before.Abs = magnitude
unary_value before.Sign = sign
unary_value before.CountLeadingZeros = leading_zeros
unary_value before.CountOneBits = one_bits
unary_value before.CountTrailingZeros = trailing_zeros
unary_value before.FirstLeadingBit = first_leading
unary_value before.FirstTrailingBit = first_trailing
unary_value before.ReverseBits = reversed
unary_value (before.ExtractBits offset count) = extracted offset count

abbrev pub binary_value : BinaryFunction → Val → Val → Outcome Val
binary_value between.Min = minimum
binary_value between.Max = maximum
binary_value (between.InsertBits offset count) = inserted offset count
