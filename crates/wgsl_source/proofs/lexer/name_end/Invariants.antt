use Rattle.std.proofs.Common.{◌+◌}
use Rattle.wgsl_source.specs.Blanks.{HasNoBlank}
use Rattle.wgsl_source.proofs.lexer.name_end.Given as goal

abbrev pub invariant-loop-at : goal.invariant-loop-at
invariant-loop-at l = HasNoBlank l.bytes (l.start + 1) l.at
