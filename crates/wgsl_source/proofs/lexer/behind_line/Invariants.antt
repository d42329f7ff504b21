use Rattle.std.proofs.Common.{ℕ, List, length}
use Rattle.wgsl_source.specs.Blanks.{Line}
use Rattle.wgsl_source.proofs.lexer.behind_line.Given as goal

abbrev pub invariant-loop-word : goal.invariant-loop-word
invariant-loop-word l = (behind : List ℕ) → Line l.left behind → Line l.rest behind

abbrev pub decreases-loop-word : goal.decreases-loop-word
decreases-loop-word l = length l.left
