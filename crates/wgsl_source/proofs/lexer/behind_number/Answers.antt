use Rattle.std.proofs.Common.{arith}
use Rattle.wgsl_source.proofs.BlankLemmas.{no_blank_more, not_blank_at}
use Rattle.wgsl_source.proofs.lexer.behind_number.Goals as goal

pub loop-at-preserved : goal.loop-at-preserved
loop-at-preserved c =
    no_blank_more c.args.rest.now 0 c.loop-at.at c.loop-at.invariant
    (not_blank_at c.args.rest.now c.loop-at.at (omega arith) (c.is_of_number.ensures c.if-not-is_of_number.false))
