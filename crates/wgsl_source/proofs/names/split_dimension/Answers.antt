use Rattle.std.proofs.Common.{arith}
use Rattle.std.proofs.lemmas.Str.Pattern.{strip_prefix_char}
use Rattle.wgsl_source.proofs.NameLemmas.{no_dimension}
use Rattle.wgsl_source.proofs.names.split_dimension.Goals as goal

pub returns-in_err-strip_prefix-clause-each : goal.returns-in_err-strip_prefix-clause-each
returns-in_err-strip_prefix-clause-each c = λ n rest is.
    let two = rw c.in_default.is at (strip_prefix_char 50 c.args.text.now c.strip_prefix.result c.strip_prefix.ensures.cases (omega arith)) in
    let three = rw c.in_default-strip_prefix.is at (strip_prefix_char 51 c.args.text.now c.strip_prefix-2.result c.strip_prefix-2.ensures.cases (omega arith)) in
    let four = rw c.in_err-strip_prefix.was at (strip_prefix_char 52 c.args.text.now c.strip_prefix-3.result c.strip_prefix-3.ensures.cases (omega arith)) in
    absurd (no_dimension c.args.text.now two three four n rest is)
