use Rattle.std.proofs.Common.{◌≡◌, Some, take}
use Rattle.wgsl_rules.specs.Converted.{all_converted}
use Rattle.wgsl_rules.specs.Types.{vec}
use Rattle.wgsl_rules.specs.View.{type_view}
use Rattle.wgsl_values.specs.View.{vals_view}
use Rattle.wgsl_values.proofs.matrix.convert_columns.Given as goal

abbrev pub invariant-loop-column : goal.invariant-loop-column
invariant-loop-column l =
    all_converted (vals_view (take l.column-index l.column-items)) (vec l.rows (type_view l.ty)) ≡ Some (vals_view l.all.items)
