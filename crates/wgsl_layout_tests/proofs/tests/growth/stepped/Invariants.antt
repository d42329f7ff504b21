use Rattle.wgsl_layout.specs.FlatCells.{IsFlatPart}
use Rattle.wgsl_layout_tests.proofs.tests.growth.stepped.Given as goal

abbrev pub invariant-loop-step : goal.invariant-loop-step
invariant-loop-step l = IsFlatPart l.part
