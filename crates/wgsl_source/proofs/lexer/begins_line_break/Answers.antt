use lib.Utf8.{encode}
use Rattle.wgsl_source.proofs.BlankLemmas.{no_break_at}
use Rattle.wgsl_source.proofs.lexer.begins_line_break.Goals as goal

pub returns : goal.returns
unfolding encode
returns c = c.begins_with_one.ensures

pub returns-then-not-may_begin_line_break : goal.returns-then-not-may_begin_line_break
returns-then-not-may_begin_line_break c =
    no_break_at c.args.rest.now c.may_begin_line_break.result c.requires c.may_begin_line_break.ensures c.if-not-may_begin_line_break.true
