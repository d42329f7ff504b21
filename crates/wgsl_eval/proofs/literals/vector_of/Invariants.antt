use Rattle.std.proofs.Common.{◌≡◌, map, take}
use Rattle.wgsl_scalar.specs.Literals.{literal_of}
use Rattle.wgsl_values.specs.View.{value_of}
use Rattle.wgsl_eval.proofs.literals.vector_of.Given as goal

abbrev pub invariant-loop-literal : goal.invariant-loop-literal
invariant-loop-literal l = map value_of l.components.items ≡ map literal_of (take l.literal-index l.literals)
