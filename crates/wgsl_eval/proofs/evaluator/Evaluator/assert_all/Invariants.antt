use Rattle.wgsl_eval.specs.Answers.{AreAnswers}
use Rattle.wgsl_eval.specs.Evaluators.{setting_of}
use Rattle.wgsl_eval.proofs.Walks.{AreAssertedSoFar}
use Rattle.wgsl_eval.proofs.evaluator.Evaluator.assert_all.Given as goal

abbrev pub invariant-loop-span : goal.invariant-loop-span
invariant-loop-span l = record {
  answers : AreAnswers l.self.meanings.items;
  so_far : AreAssertedSoFar (setting_of l.fn.self) l.asserts l.span-index l.found.items (setting_of l.self);
}
