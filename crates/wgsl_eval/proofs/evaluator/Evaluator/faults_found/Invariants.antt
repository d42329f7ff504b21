use Rattle.std.proofs.Common.{◌≡◌, ◌≤◌, ◌+◌, ◌-◌}
use Rattle.wgsl_eval.specs.Evaluators.{setting_of}
use Rattle.wgsl_eval.proofs.Faults.{AreFaultsSoFar}
use Rattle.wgsl_eval.proofs.evaluator.Evaluator.faults_found.Given as goal

abbrev pub invariant-loop-number : goal.invariant-loop-number
invariant-loop-number l = record {
  keeps : setting_of l.self ≡ setting_of l.fn.self;
  within : l.number ≤ l.first + (l.end - l.first);
  faults : AreFaultsSoFar (setting_of l.fn.self) l.first l.number l.faults.items;
}
