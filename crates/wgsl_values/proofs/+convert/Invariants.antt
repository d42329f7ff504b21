use Rattle.std.proofs.Common.{◌≡◌, Some, take}
use Rattle.wgsl_rules.specs.Converted.{all_converted}
use Rattle.wgsl_rules.specs.View.{type_view}
use Rattle.wgsl_values.specs.View.{vals_view}
use Rattle.wgsl_values.proofs.+convert.Given as goal

abbrev pub invariant-lists::convert_values-loop-value : goal.invariant-lists::convert_values-loop-value
invariant-lists::convert_values-loop-value l =
    all_converted (vals_view (take l.value-index l.value-items)) (type_view l.ty) ≡ Some (vals_view l.all.items)
