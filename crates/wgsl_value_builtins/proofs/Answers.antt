-- What builtin functions answer may be stored.
use Rattle.wgsl_value_builtins.proofs.BitAnswers.{reversed-storable, first_leading-storable, first_trailing-storable, extracted-storable, inserted-storable}
use Rattle.wgsl_value_builtins.proofs.LogicalAnswers.{all-storable, any-storable, selected-storable}
use Rattle.wgsl_value_builtins.proofs.NumericAnswers.{magnitudes-storable, signs-storable, leading-storable, ones-storable, trailing-storable, lesser-storable, greater-storable, clamped-storable, dotted-storable, transposition-storable}
use Rattle.wgsl_value_builtins.proofs.PackingAnswers.{packed_signed-storable, packed_unsigned-storable, packed_signed_limited-storable, packed_unsigned_limited-storable, unpacked_signed-storable, unpacked_unsigned-storable, bitcast-storable, dot_signed-storable, dot_unsigned-storable}
use Rattle.wgsl_value_builtins.specs.Laws.{AnswersMayBeStored}

pub answers : AnswersMayBeStored
answers = record {
  all = all-storable;
  any = any-storable;
  select = selected-storable;
  magnitude = magnitudes-storable;
  sign = signs-storable;
  min = lesser-storable;
  max = greater-storable;
  clamp = clamped-storable;
  dot = dotted-storable;
  transpose = transposition-storable;
  leading_zeros = leading-storable;
  one_bits = ones-storable;
  trailing_zeros = trailing-storable;
  cast = λ t target. bitcast-storable t;
  pack_signed = packed_signed-storable;
  pack_unsigned = packed_unsigned-storable;
  pack_signed_limited = packed_signed_limited-storable;
  pack_unsigned_limited = packed_unsigned_limited-storable;
  unpack_signed = unpacked_signed-storable;
  unpack_unsigned = unpacked_unsigned-storable;
  dot_signed = dot_signed-storable;
  dot_unsigned = dot_unsigned-storable;
  reverse = reversed-storable;
  first_leading = first_leading-storable;
  first_trailing = first_trailing-storable;
  extract = extracted-storable;
  insert = inserted-storable;
}
