use Rattle.std.proofs.Common.{take}
use Rattle.wgsl_source.specs.Finders.{HasAdded}
use Rattle.wgsl_source.proofs.uses.Finder.add_steps.Given as goal

abbrev pub invariant-loop-step : goal.invariant-loop-step
invariant-loop-step l = HasAdded l.fn.self (take l.step-index l.steps) l.self
