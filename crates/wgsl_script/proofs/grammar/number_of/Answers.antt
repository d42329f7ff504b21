use Rattle.std.proofs.Common.{arith}
use Rattle.std.proofs.lemmas.Bool.{iff_false}
use Rattle.std.proofs.lemmas.Str.Pattern.{starts_char}
use Rattle.wgsl_script.proofs.Numbers.{number_read}
use Rattle.wgsl_script.proofs.grammar.number_of.Goals as goal

pub returns : goal.returns
returns c =
    let starts = starts_char 43 c.args.word.now c.starts_with.result c.starts_with.ensures.cases (omega arith) (omega arith) in
    rw c.ok.ensures.value (number_read c.args.word.now _ c.parse.ensures.value.0 (iff_false starts c.if-starts_with.false) c.if-word-gt-DIGITS.false)
