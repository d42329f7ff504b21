use Rattle.std.proofs.Common.{◌≡◌}
use Rattle.wgsl_values.specs.Same.{same_steps}
use Rattle.wgsl_values.specs.View.{steps_of}
use Rattle.wgsl_values.proofs.view.MemViewPartialEq.eq.Given as goal

abbrev pub invariant-loop-own : goal.invariant-loop-own
invariant-loop-own l =
    same_steps (steps_of l.initial.own) (steps_of l.initial.others) ≡ same_steps (steps_of l.own) (steps_of l.others)
