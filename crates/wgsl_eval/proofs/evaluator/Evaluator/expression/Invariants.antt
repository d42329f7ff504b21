use Rattle.std.proofs.Common.{◌≡◌}
use Rattle.wgsl_eval.specs.Evaluators.{setting_of}
use Rattle.wgsl_eval.specs.Waitings.{AreWaiting}
use Rattle.wgsl_eval.proofs.WaitingSteps.{AreRunSoFar}
use Rattle.wgsl_eval.proofs.evaluator.Evaluator.expression.Given as goal

abbrev pub invariant-loop-step : goal.invariant-loop-step
invariant-loop-step l = record {
  keeps : setting_of l.self ≡ setting_of l.fn.self;
  waiting : AreWaiting l.self.meanings.items l.answers.items;
  so_far : AreRunSoFar (setting_of l.fn.self) l.steps l.step-index l.answers.items;
}
