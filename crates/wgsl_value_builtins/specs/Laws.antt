-- Laws of the builtin functions: packed bytes, reversed bits, the lesser and the greater, and answers that may be stored.
-- Each is proved of the definitions alone.
use Rattle.std.specs.Prelude.{◌≡◌, ℤ, Ok}
use Rattle.wgsl_rules.specs.Kinds as kinds
use Rattle.wgsl_rules.specs.Kinds.{InKind}
use Rattle.wgsl_rules.specs.Layout.{size}
use Rattle.wgsl_rules.specs.Refusals.{Outcome, and_then}
use Rattle.wgsl_rules.specs.Types.{Ty}
use Rattle.wgsl_rules.specs.Values.{Val, number, type_of, IsStorable, IsWellFormed}
use Rattle.wgsl_rules.specs.declared.syntax.ShaderStage.{ShaderStage}
use Rattle.wgsl_value_builtins.specs.BitFunctions.{reversed_bits, first_leading_bits, first_trailing_bits, extracted_bits, inserted_bits}
use Rattle.wgsl_value_builtins.specs.Bitcast.{IsBitcastTarget, bitcast}
use Rattle.wgsl_value_builtins.specs.Logical.{all_hold, any_holds, selected}
use Rattle.wgsl_value_builtins.specs.Numeric.{magnitudes, signs, leading_zero_counts, one_bit_counts, trailing_zero_counts, lesser_of, greater_of, clamped, dotted, transposition}
use Rattle.wgsl_value_builtins.specs.Packing.{packed_signed, packed_unsigned, packed_signed_limited, packed_unsigned_limited, unpacked_signed, unpacked_unsigned, dot_packed_unsigned, dot_packed_signed}

-- ---- words

-- to pack what was unpacked gives each word back; a limit changes nothing then
pub record UnpackedBytesPackAgain (z : ℤ) : Type 0 where
  pub signed : and_then (unpacked_signed (number kinds.u32 z)) packed_signed ≡ Ok (number kinds.u32 z)
  pub unsigned : and_then (unpacked_unsigned (number kinds.u32 z)) packed_unsigned ≡ Ok (number kinds.u32 z)
  pub signed_limited : and_then (unpacked_signed (number kinds.u32 z)) packed_signed_limited ≡ Ok (number kinds.u32 z)
  pub unsigned_limited : and_then (unpacked_unsigned (number kinds.u32 z)) packed_unsigned_limited ≡ Ok (number kinds.u32 z)

abbrev pub PackingUndoesUnpacking : Type 0
PackingUndoesUnpacking = (z : ℤ) → InKind kinds.u32 z → UnpackedBytesPackAgain z

-- a bitcast to a type of the same size and back gives the value again
abbrev pub BitcastsUndoEachOther : Type 0
BitcastsUndoEachOther = (v : Val) (t : Ty) → IsStorable v → IsBitcastTarget (type_of v) → IsBitcastTarget t → size t ≡ size (type_of v) → and_then (bitcast t v) (bitcast (type_of v)) ≡ Ok v

-- bits that are reversed twice are as before
abbrev pub ReversedTwiceIsItself : Type 0
ReversedTwiceIsItself = (v w : Val) → IsWellFormed v → reversed_bits v ≡ Ok w → reversed_bits w ≡ Ok v

-- ---- numbers

-- the lesser and the greater of two values do not depend on their order, nor do their refusals
pub record SwapsArguments (v w : Val) : Type 0 where
  pub lesser : lesser_of v w ≡ lesser_of w v
  pub greater : greater_of v w ≡ greater_of w v

abbrev pub MinAndMaxAreSymmetric : Type 0
MinAndMaxAreSymmetric = (v w : Val) → SwapsArguments v w

-- ---- answers

-- what the function answers of values that are well-formed may be stored
abbrev pub Answers1 : (Val → Outcome Val) → Type 0
Answers1 f = (v x : Val) → IsWellFormed v → f v ≡ Ok x → IsStorable x

abbrev pub Answers2 : (Val → Val → Outcome Val) → Type 0
Answers2 f = (v w x : Val) → IsWellFormed v → IsWellFormed w → f v w ≡ Ok x → IsStorable x

abbrev pub Answers3 : (Val → Val → Val → Outcome Val) → Type 0
Answers3 f = (u v w x : Val) → IsWellFormed u → IsWellFormed v → IsWellFormed w → f u v w ≡ Ok x → IsStorable x

pub record AnswersMayBeStored : Type 0 where
  pub all : Answers1 all_hold
  pub any : Answers1 any_holds
  pub select : Answers3 selected
  pub magnitude : Answers1 magnitudes
  pub sign : Answers1 signs
  pub min : Answers2 lesser_of
  pub max : Answers2 greater_of
  pub clamp : Answers3 clamped
  pub dot : (stage : ShaderStage) → Answers2 (dotted stage)
  pub transpose : Answers1 transposition
  pub leading_zeros : Answers1 leading_zero_counts
  pub one_bits : Answers1 one_bit_counts
  pub trailing_zeros : Answers1 trailing_zero_counts
  pub cast : (t : Ty) → IsBitcastTarget t → Answers1 (bitcast t)
  pub pack_signed : Answers1 packed_signed
  pub pack_unsigned : Answers1 packed_unsigned
  pub pack_signed_limited : Answers1 packed_signed_limited
  pub pack_unsigned_limited : Answers1 packed_unsigned_limited
  pub unpack_signed : Answers1 unpacked_signed
  pub unpack_unsigned : Answers1 unpacked_unsigned
  pub dot_signed : Answers2 dot_packed_signed
  pub dot_unsigned : Answers2 dot_packed_unsigned
  pub reverse : Answers1 reversed_bits
  pub first_leading : Answers1 first_leading_bits
  pub first_trailing : Answers1 first_trailing_bits
  pub extract : Answers3 extracted_bits
  pub insert : (u v w o x : Val) → IsWellFormed u → IsWellFormed v → IsWellFormed w → IsWellFormed o → inserted_bits u v w o ≡ Ok x → IsStorable x
