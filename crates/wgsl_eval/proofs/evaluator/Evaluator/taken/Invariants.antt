use Rattle.std.specs.Prelude.{reverse}
use Rattle.wgsl_eval.specs.Answers.{AreAnswers}
use Rattle.wgsl_eval.specs.Waitings.{AreWaiting, IsTaken}
use Rattle.wgsl_eval.proofs.evaluator.Evaluator.taken.Given as goal

abbrev pub invariant-loop-number : goal.invariant-loop-number
invariant-loop-number l = record {
  taken : IsTaken l.self.meanings.items l.number l.fn.answers.items (reverse l.list.items) l.answers.items;
  left : AreWaiting l.self.meanings.items l.answers.items;
  sound : AreAnswers l.list.items;
}
