use Rattle.std.proofs.Common.{◌≡◌, ◌∙◌, ◌+◌, ◌-◌, ◌≤◌, arith}
use Rattle.wgsl_eval.specs.Evaluators.{setting_of}
use Rattle.wgsl_eval.proofs.Faults.{all_faults, more_faults}
use Rattle.wgsl_eval.proofs.evaluator.Evaluator.faults_found.Goals as goal

pub loop-number-preserved : goal.loop-number-preserved
loop-number-preserved c = record {
  keeps = c.found_number.ensures.keeps ∙ c.loop-number.invariant.keeps;
  within = omega arith;
  faults = more_faults (setting_of c.args.self.now) (setting_of c.loop-number.self) c.args.first c.loop-number.number _ _ c.in_ok-found.found c.loop-number.invariant.keeps
      c.loop-number.invariant.faults c.in_ok-found.ensures.found c.in_ok-add_fault.ensures;
}

pub returns-clause-faults : goal.returns-clause-faults
returns-clause-faults c =
    let done : c.loop-number.number ≡ c.args.first + (c.args.end - c.args.first) = omega arith in
    all_faults (setting_of c.args.self.now) c.args.first c.args.end c.loop-number.number _ done c.loop-number.invariant.faults
