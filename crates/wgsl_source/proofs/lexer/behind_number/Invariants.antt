use Rattle.wgsl_source.specs.Blanks.{HasNoBlank}
use Rattle.wgsl_source.proofs.lexer.behind_number.Given as goal

abbrev pub invariant-loop-at : goal.invariant-loop-at
invariant-loop-at l = HasNoBlank l.rest 0 l.at
