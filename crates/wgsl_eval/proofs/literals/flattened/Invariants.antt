use Rattle.std.proofs.Common.{◌≡◌, map, take}
use Rattle.wgsl_scalar.specs.Literals.{literal_of}
use Rattle.wgsl_values.specs.View.{value_of}
use Rattle.wgsl_eval.specs.Constructors.{scalars_of}
use Rattle.wgsl_eval.proofs.literals.flattened.Given as goal

abbrev pub invariant-loop-value : goal.invariant-loop-value
invariant-loop-value l = map literal_of l.literals.items ≡ scalars_of (map value_of (take l.value-index l.values))
