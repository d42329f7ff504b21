use Rattle.std.proofs.Common.{◌≡◌, Some, take}
use Rattle.wgsl_rules.specs.Converted.{all_converted}
use Rattle.wgsl_rules.specs.View.{type_view}
use Rattle.wgsl_values.specs.View.{vals_view}
use Rattle.wgsl_values.proofs.vector.convert_literals.Given as goal

abbrev pub invariant-loop-literal : goal.invariant-loop-literal
invariant-loop-literal l =
    all_converted (vals_view (take l.literal-index l.literal-items)) (type_view l.ty) ≡ Some (vals_view l.all.items)
