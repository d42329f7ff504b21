use Rattle.std.proofs.Common.{◌≡◌}
use Rattle.wgsl_rules.specs.Paths.{parts}
use Rattle.wgsl_values.specs.Matrices.{rows}
use Rattle.wgsl_values.specs.View.{mat_view, vals_view}
use Rattle.wgsl_values.proofs.matrix.MatInstance.transpose.Given as goal

abbrev pub invariant-loop-i : goal.invariant-loop-i
invariant-loop-i l = vals_view l.columns.items ≡ rows l.i (parts (mat_view l.self))
