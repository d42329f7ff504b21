use Rattle.std.proofs.Common.{inr}
use Rattle.wgsl_source.proofs.BlankLemmas.{plain_at}
use Rattle.wgsl_source.proofs.lexer.piece_at.Goals as goal

pub symbol_at-requires-clause-begins : goal.symbol_at-requires-clause-begins
symbol_at-requires-clause-begins c = plain_at c.args.bytes.now c.args.start c.args.class c.requires.within c.requires.class (inr (inr c.in-Symbol.is))
