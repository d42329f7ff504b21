use Rattle.std.proofs.Common.{arith}
use Rattle.std.proofs.lemmas.Str.Pattern.{strip_prefix_char}
use Rattle.wgsl_source.proofs.NameLemmas.{no_rows}
use Rattle.wgsl_source.proofs.names.matrix_named.Goals as goal

pub returns-in_err-strip_prefix-clause-each : goal.returns-in_err-strip_prefix-clause-each
returns-in_err-strip_prefix-clause-each c = λ p named.
    let none = rw c.in_err-strip_prefix.was at (strip_prefix_char 120 c.in_ok-columns.rest.now c.strip_prefix.result c.strip_prefix.ensures.cases (omega arith)) in
    absurd (no_rows c.args.rest.now c.in_ok-columns.rest.now (λ n rest is. (c.in_ok-columns.ensures.each n rest is).1) none p named)
