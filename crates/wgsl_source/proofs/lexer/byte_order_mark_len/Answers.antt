use lib.Utf8.{encode}
use Rattle.std.proofs.Common.{sym, ◌∙◌}
use Rattle.wgsl_source.specs.Blanks.IsCut.{nothing, mark}
use Rattle.wgsl_source.proofs.lexer.byte_order_mark_len.Goals as goal

pub returns-then-starts_with-clause-cut : goal.returns-then-starts_with-clause-cut
unfolding encode
returns-then-starts_with-clause-cut c = mark (sym c.starts_with.ensures.value ∙ c.if-starts_with.true)

pub returns-else-starts_with-clause-cut : goal.returns-else-starts_with-clause-cut
returns-else-starts_with-clause-cut c = nothing
