use Rattle.std.proofs.Common.{◌≡◌, map, All, drop, reverse}
use Rattle.wgsl_eval.specs.Answers.{AreAnswers, IsSoundOutcome}
use Rattle.wgsl_eval.specs.Evaluated.{evaluated_at}
use Rattle.wgsl_eval.specs.Evaluation.{has_value_among, name_at}
use Rattle.wgsl_eval.specs.Evaluators.{setting_of}
use Rattle.wgsl_eval.proofs.Told.{AreTold}
use Rattle.wgsl_eval.proofs.evaluator.Evaluator.into_evaluation.Given as goal

abbrev pub invariant-loop-number : goal.invariant-loop-number
invariant-loop-number l = record {
  answers : AreAnswers l.meanings.items;
  left : l.meanings.items ≡ reverse (drop l.number l.fn.self.meanings.items);
  sound : All (λ v. IsSoundOutcome v.outcome) l.values.items;
  names : AreTold (has_value_among l.reading l.given l.stage) (name_at l.reading) l.reading.declared l.number (map (λ v. v.token) l.values.items);
  values : AreTold (has_value_among l.reading l.given l.stage) (evaluated_at (setting_of l.fn.self)) l.reading.declared l.number l.values.items;
}
