use Rattle.wgsl_eval.specs.Answers.{AreAnswers}
use Rattle.wgsl_eval.specs.Evaluators.{setting_of}
use Rattle.wgsl_eval.proofs.Walks.{AreDeclaredSoFar}
use Rattle.wgsl_eval.proofs.evaluator.Evaluator.declare_all.Given as goal

abbrev pub invariant-loop-number : goal.invariant-loop-number
invariant-loop-number l = record {
  answers : AreAnswers l.self.meanings.items;
  so_far : AreDeclaredSoFar (setting_of l.fn.self) l.order l.number-index (setting_of l.self);
}
