use Rattle.std.proofs.Common.{◌≡◌, drop, reverse, vec_len}
use Rattle.wgsl_eval.specs.Answers.{AreAnswers}
use Rattle.wgsl_eval.specs.Evaluated.{IsItemAt}
use Rattle.wgsl_eval.specs.Evaluators.{setting_of}
use Rattle.wgsl_eval.specs.Lists.{AllFrom}
use Rattle.wgsl_eval.proofs.evaluator.Evaluator.into_declarations.Given as goal

abbrev pub invariant-loop-number : goal.invariant-loop-number
invariant-loop-number l = record {
  answers : AreAnswers l.meanings.items;
  left : l.meanings.items ≡ reverse (drop l.number l.fn.self.meanings.items);
  count : vec_len l.items ≡ l.number;
  items : AllFrom (IsItemAt (setting_of l.fn.self)) 0 l.items.items;
}
