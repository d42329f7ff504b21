use Rattle.std.proofs.Common.{◌≡◌, ◌++◌, reverse}
use Rattle.wgsl_values.specs.View.{steps_of}
use Rattle.wgsl_values.proofs.view.MemView.turned_onto.Given as goal

abbrev pub invariant-loop-self : goal.invariant-loop-self
invariant-loop-self l = reverse (steps_of l.initial.self) ++ steps_of l.initial.done ≡ reverse (steps_of l.self) ++ steps_of l.done
