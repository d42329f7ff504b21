use Rattle.std.proofs.Common.{◌≡◌}
use Rattle.wgsl_rules.specs.Paths.{parts}
use Rattle.wgsl_values.specs.Matrices.{row}
use Rattle.wgsl_values.specs.View.{mat_view, vals_view}
use Rattle.wgsl_values.proofs.Rows.{joined, row_from}
use Rattle.wgsl_values.proofs.matrix.MatInstance.row.Given as goal

abbrev pub invariant-loop-column : goal.invariant-loop-column
invariant-loop-column l = joined (vals_view l.components.items) (row_from l.i l.column-index l.column-items) ≡ row l.i (parts (mat_view l.self))
