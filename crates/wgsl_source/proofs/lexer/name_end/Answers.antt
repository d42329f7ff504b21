use Rattle.std.proofs.Common.{◌+◌, length, arith}
use Rattle.wgsl_source.proofs.BlankLemmas.{no_blank_none, no_blank_more, no_blank_from, no_blank_below}
use Rattle.wgsl_source.proofs.lexer.name_end.Goals as goal

pub loop-at-init : goal.loop-at-init
loop-at-init c = no_blank_none c.args.bytes.now (c.args.start + 1)

pub loop-at-preserved : goal.loop-at-preserved
loop-at-preserved c =
    no_blank_more c.args.bytes.now (c.args.start + 1) c.loop-at.at c.loop-at.invariant (c.is_of_name.ensures c.if-not-is_of_name.false)

pub returns-then-not-is_of_name-clause-no_blank : goal.returns-then-not-is_of_name-clause-no_blank
returns-then-not-is_of_name-clause-no_blank c = no_blank_from c.args.bytes.now c.args.start c.loop-at.at c.requires.begins c.loop-at.invariant

pub returns-clause-no_blank : goal.returns-clause-no_blank
returns-clause-no_blank c =
    no_blank_from c.args.bytes.now c.args.start (length c.args.bytes.now) c.requires.begins
    (no_blank_below c.args.bytes.now (c.args.start + 1) c.loop-at.at (length c.args.bytes.now) (omega arith) c.loop-at.invariant)
