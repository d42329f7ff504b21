use Rattle.std.proofs.Common.{◌≡◌, replicate}
use Rattle.wgsl_eval.specs.Answers.{AreAnswers}
use Rattle.wgsl_eval.specs.declared.answer.Answer.TheVariants as answers
use Rattle.wgsl_eval.proofs.evaluator.unknown.Given as goal

abbrev pub invariant-loop-number : goal.invariant-loop-number
invariant-loop-number l = (l.meanings.items ≡ replicate l.number answers.Faulty) × AreAnswers l.meanings.items
