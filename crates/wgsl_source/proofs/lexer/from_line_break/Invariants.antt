use Rattle.std.proofs.Common.{ℕ, List, length}
use Rattle.wgsl_source.specs.Blanks.{Line}
use Rattle.wgsl_source.proofs.lexer.from_line_break.Given as goal

abbrev pub invariant-loop-left : goal.invariant-loop-left
invariant-loop-left l = (behind : List ℕ) → Line l.left behind → Line l.rest behind

abbrev pub decreases-loop-left : goal.decreases-loop-left
decreases-loop-left l = length l.left
