use Rattle.std.proofs.Common.{◌≡◌, ◌++◌, reverse}
use Rattle.wgsl_values.specs.View.{steps_of}
use Rattle.wgsl_values.proofs.view.MemView.turned_copy.Given as goal

abbrev pub invariant-loop-rest : goal.invariant-loop-rest
invariant-loop-rest l = reverse (steps_of l.initial.rest) ≡ reverse (steps_of l.rest) ++ steps_of l.copy
