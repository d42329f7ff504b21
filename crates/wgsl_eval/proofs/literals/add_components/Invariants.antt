use Rattle.std.proofs.Common.{◌≡◌, ◌++◌, map, take}
use Rattle.wgsl_scalar.specs.Literals.{literal_of}
use Rattle.wgsl_values.specs.View.{value_of}
use Rattle.wgsl_eval.proofs.literals.add_components.Given as goal

abbrev pub invariant-loop-component : goal.invariant-loop-component
invariant-loop-component l =
    map literal_of l.literals.items ≡ map literal_of l.initial.literals.items ++ map value_of (take l.component-index l.components)
