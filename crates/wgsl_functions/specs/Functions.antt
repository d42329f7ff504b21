-- What the functions that a source names give for values (WGSL: builtin functions).
use Rattle.std.specs.Prelude.{ℕ, List, [], ◌∷◌, Option, Some, None, Err, if◌then◌else◌}
use Rattle.wgsl_rules.specs.Refusals.{Outcome, builtin}
use Rattle.wgsl_rules.specs.Types.{Ty}
use Rattle.wgsl_rules.specs.Values.{Val}
use Rattle.wgsl_rules.specs.declared.syntax.ShaderStage.{ShaderStage}
use Rattle.wgsl_value_builtins.specs.Numeric.{magnitudes, signs, leading_zero_counts, one_bit_counts, trailing_zero_counts, lesser_of, greater_of, clamped, dotted, transposition}
use Rattle.wgsl_value_builtins.specs.BitFunctions.{first_leading_bits, first_trailing_bits, reversed_bits, extracted_bits, inserted_bits}
use Rattle.wgsl_value_builtins.specs.Bitcast.{is_bitcast_target, bitcast}
use Rattle.wgsl_value_builtins.specs.Packing.{packed_signed, packed_unsigned, packed_signed_limited, packed_unsigned_limited, unpacked_signed, unpacked_unsigned, dot_packed_signed, dot_packed_unsigned}
use Rattle.wgsl_value_builtins.specs.Logical.{all_hold, any_holds, selected}
use Rattle.wgsl_functions.specs.declared.builtin.Builtin.{Builtin}
use Rattle.wgsl_functions.specs.declared.builtin.Builtin.TheVariants as functions
use Rattle.wgsl_functions.specs.declared.builtin.OfOne.{OfOne}
use Rattle.wgsl_functions.specs.declared.builtin.OfOne.TheVariants as ones
use Rattle.wgsl_functions.specs.declared.builtin.OfTwo.{OfTwo}
use Rattle.wgsl_functions.specs.declared.builtin.OfTwo.TheVariants as twos
use Rattle.wgsl_functions.specs.declared.builtin.OfThree.{OfThree}
use Rattle.wgsl_functions.specs.declared.builtin.OfThree.TheVariants as threes

-- a function of one value
abbrev pub of_one_value : OfOne → Val → Outcome Val
of_one_value ones.Abs v = magnitudes v
of_one_value ones.Sign v = signs v
of_one_value ones.CountLeadingZeros v = leading_zero_counts v
of_one_value ones.CountOneBits v = one_bit_counts v
of_one_value ones.CountTrailingZeros v = trailing_zero_counts v
of_one_value ones.FirstLeadingBit v = first_leading_bits v
of_one_value ones.FirstTrailingBit v = first_trailing_bits v
of_one_value ones.ReverseBits v = reversed_bits v
of_one_value ones.Transpose v = transposition v
of_one_value ones.Pack4xI8 v = packed_signed v
of_one_value ones.Pack4xU8 v = packed_unsigned v
of_one_value ones.Pack4xI8Clamp v = packed_signed_limited v
of_one_value ones.Pack4xU8Clamp v = packed_unsigned_limited v
of_one_value ones.Unpack4xI8 v = unpacked_signed v
of_one_value ones.Unpack4xU8 v = unpacked_unsigned v
of_one_value ones.All v = all_hold v
of_one_value ones.Any v = any_holds v

-- a function of two values
abbrev pub of_two_values : OfTwo → ShaderStage → Val → Val → Outcome Val
of_two_values twos.Min stage v w = lesser_of v w
of_two_values twos.Max stage v w = greater_of v w
of_two_values twos.Dot stage v w = dotted stage v w
of_two_values twos.Dot4U8Packed stage v w = dot_packed_unsigned v w
of_two_values twos.Dot4I8Packed stage v w = dot_packed_signed v w

-- a function of three values
abbrev pub of_three_values : OfThree → Val → Val → Val → Outcome Val
of_three_values threes.Clamp e low high = clamped e low high
of_three_values threes.Select v w condition = selected v w condition
of_three_values threes.ExtractBits e offset count = extracted_bits e offset count

-- how many values a function takes; one of floats or of memory takes none of integers
abbrev pub count_of : Builtin → Option ℕ
count_of (functions.One f) = Some 1
count_of (functions.Two f) = Some 2
count_of (functions.Three f) = Some 3
count_of functions.InsertBits = Some 4
count_of functions.Float = None
count_of functions.NotConstant = None

-- a function of the values, where they are as many as it takes
abbrev pub of_values : Builtin → ShaderStage → List Val → Outcome Val
of_values (functions.One f) stage (v ∷ []) = of_one_value f v
of_values (functions.Two f) stage (v ∷ w ∷ []) = of_two_values f stage v w
of_values (functions.Three f) stage (u ∷ v ∷ w ∷ []) = of_three_values f u v w
of_values functions.InsertBits stage (e ∷ bits ∷ offset ∷ count ∷ []) = inserted_bits e bits offset count
of_values f stage vs = Err builtin

-- the bits of the value as a value of the type, which is an i32, a u32 or a vector of them
abbrev pub bitcast_to : Ty → Val → Outcome Val
bitcast_to t v = if is_bitcast_target t then bitcast t v else Err builtin
