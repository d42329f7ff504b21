use Rattle.std.proofs.Common.{◌≡◌, ◌<◌, ◌∙◌, ℕ, length, subst, arith}
use Rattle.wgsl_eval.specs.Evaluators.{setting_of}
use Rattle.wgsl_eval.proofs.WaitingSteps.{AreRunSoFar, kept_answer, last_found, runs_more, waiting_more}
use Rattle.wgsl_eval.proofs.evaluator.Evaluator.expression.Goals as goal

pub loop-step-preserved : goal.loop-step-preserved
loop-step-preserved c =
    let all = c.steps-steps.result.now in
    let i = c.loop-step.step-index in
    let s = setting_of c.loop-step.self in
    let new = c.step.new.answers.items in
    let inside : i < length all = omega arith in
    record {
      keeps = c.step.ensures.keeps ∙ c.loop-step.invariant.keeps;
      waiting = waiting_more s (setting_of c.step.new.self) new c.push.new.self.items c.in_ok-answer.answer c.step.ensures.keeps c.in_ok-push.ensures.items
          c.in_ok-answer.ensures.left c.in_ok-answer.ensures.next;
      so_far = runs_more (setting_of c.args.self.now) s all i c.loop-step.answers.items new c.push.new.self.items c.in_ok-answer.answer _ inside
          c.loop-step.invariant.keeps c.in_ok-push.ensures.items c.loop-step.invariant.so_far c.in_ok-answer.ensures.done;
    }

pub returns-clause-found : goal.returns-clause-found
returns-clause-found c =
    let s = setting_of c.args.self.now in
    let all = c.steps-steps.result.now in
    let ws = c.loop-step.answers.items in
    let ended : c.loop-step.step-index ≡ length all = omega arith in
    let P : ℕ → Type 0 = λ i. AreRunSoFar s all i ws in
    last_found s (setting_of c.loop-step.self) c.args.span all ws c.keep_last.new.answers.items c.popped_waiting.new.answers.items c.popped_waiting.result
    c.loop-step.invariant.keeps c.steps-steps.ensures (subst P ended c.loop-step.invariant.so_far)
    c.in_ok-keep_last.ensures.left c.in_ok-keep_last.ensures.kept c.popped_waiting.ensures.last c.popped_waiting.ensures.left

pub returns-clause-answer : goal.returns-clause-answer
returns-clause-answer c =
    kept_answer c.loop-step.self.meanings.items c.loop-step.answers.items c.keep_last.new.answers.items c.popped_waiting.result
    c.in_ok-keep_last.ensures.kept c.popped_waiting.ensures.last
