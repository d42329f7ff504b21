use Rattle.std.proofs.Common.{◌≡◌, take, map}
use Rattle.wgsl_values.specs.View.{value_of}
use Rattle.wgsl_values.proofs.+clone.Given as goal

abbrev pub invariant-lists::clone_values-loop-value : goal.invariant-lists::clone_values-loop-value
invariant-lists::clone_values-loop-value l =
    map value_of l.copies.items ≡ map value_of (take l.value-index l.value-items)
