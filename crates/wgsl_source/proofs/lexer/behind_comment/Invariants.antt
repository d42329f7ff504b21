use Rattle.std.proofs.Common.{ℕ, List, length, ◌+◌, ◌≤◌}
use Rattle.wgsl_source.specs.Blanks.{Comment}
use Rattle.wgsl_source.proofs.BlankLemmas.{Comments}
use Rattle.wgsl_source.proofs.lexer.behind_comment.Given as goal

abbrev pub invariant-loop-left : goal.invariant-loop-left
invariant-loop-left l = record {
  short : l.inner + length l.left ≤ length l.rest;
  closing : (behind : List ℕ) → Comments l.inner l.left behind → Comment l.rest behind;
}

abbrev pub decreases-loop-left : goal.decreases-loop-left
decreases-loop-left l = length l.left
