use Rattle.std.proofs.Common.{◌≡◌, ℕ, List, ◌++◌}
use Rattle.std.specs.Fmt.{HasWritten, IsPlainFormatter}
use Rattle.wgsl_values.specs.Texts.{text_of_steps}
use Rattle.wgsl_values.specs.View.{steps_of}
use Rattle.wgsl_values.proofs.view.MemViewDisplay.fmt.Given as goal

abbrev pub invariant-loop-steps : goal.invariant-loop-steps
invariant-loop-steps g l =
    IsPlainFormatter l.initial.f →
    (done : List ℕ) ×
    HasWritten g.W.Write.write_str_gives l.initial.f done l.f × (text_of_steps (steps_of l.initial.steps) ≡ done ++ text_of_steps (steps_of l.steps))
