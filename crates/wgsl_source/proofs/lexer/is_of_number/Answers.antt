use lib.Utf8.{encode}
use Rattle.std.proofs.Common.{refl}
use Rattle.wgsl_source.proofs.BlankLemmas.{letter_or_digit, sign_or_point}
use Rattle.wgsl_source.proofs.lexer.is_of_number.Goals as goal

pub returns-in-46 : goal.returns-in-46
unfolding encode
returns-in-46 c = λ _. sign_or_point c.args.byte 46 c.in-46.is refl

pub returns-in-43 : goal.returns-in-43
unfolding encode
returns-in-43 c = λ _. sign_or_point c.args.byte 43 c.in-43.is refl

pub returns-in-45 : goal.returns-in-45
unfolding encode
returns-in-45 c = λ _. sign_or_point c.args.byte 45 c.in-45.is refl

pub returns-then-is_ascii_alphanumeric : goal.returns-then-is_ascii_alphanumeric
returns-then-is_ascii_alphanumeric c = λ _. letter_or_digit c.args.byte c.is_ascii_alphanumeric.result c.is_ascii_alphanumeric.ensures.value c.if-is_ascii_alphanumeric.true
