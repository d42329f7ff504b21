use Rattle.std.proofs.Common.{◌≡◌, length, map}
use Rattle.wgsl_functions.proofs.Taken.{AreTaken}
use Rattle.wgsl_values.specs.View.{value_of}
use Rattle.wgsl_functions.proofs.parameters.take_each.Given as goal

abbrev pub invariant-loop-at : goal.invariant-loop-at
invariant-loop-at l = record {
  taken : AreTaken l.at l.parameters (map value_of l.fn.values.items) (map value_of l.values.items);
  long : length l.values.items ≡ length l.fn.values.items;
}
