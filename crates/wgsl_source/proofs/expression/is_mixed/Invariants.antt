use Rattle.std.proofs.Common.{◌≡◌, length, reverse}
use Rattle.wgsl_source.specs.Expressions.{is_mixed_in}
use Rattle.wgsl_source.proofs.expression.is_mixed.Given as goal

abbrev pub invariant-loop-item : goal.invariant-loop-item
invariant-loop-item l = is_mixed_in (reverse l.rest) l.operator ≡ is_mixed_in (reverse l.open) l.operator

abbrev pub decreases-loop-item : goal.decreases-loop-item
decreases-loop-item l = length l.rest
