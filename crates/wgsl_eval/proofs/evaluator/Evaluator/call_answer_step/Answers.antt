use Rattle.wgsl_source.specs.declared.expression.Callee.TheVariants as callees
use Rattle.wgsl_source.specs.declared.expression.Step.TheVariants as steps
use Rattle.wgsl_eval.specs.Answers.{IsAnswer}
use Rattle.wgsl_eval.specs.Calls.{IsCallOf}
use Rattle.wgsl_eval.specs.Evaluators.{setting_of}
use Rattle.wgsl_eval.specs.Waitings.{IsDone}
use Rattle.wgsl_eval.proofs.WaitingSteps.{done_call_answer, if_both, taken_kept}
use Rattle.wgsl_eval.proofs.evaluator.Evaluator.call_answer_step.Goals as goal

pub returns-clause-done : goal.returns-clause-done
returns-clause-done c =
    let s = setting_of c.args.self.now in
    let old = c.args.answers.now.items in
    let between = c.taken.new.answers.items in
    let new = c.popped_waiting-callee.new.answers.items in
    let callee = c.popped_waiting-callee.result in
    let list = c.in_ok-arguments.arguments.items in
    let token = c.args.token in
    let n = c.args.count in
    let one = taken_kept s.meanings between c.keep_last.new.answers.items new callee
    c.in_ok-keep_last.ensures.kept c.popped_waiting-callee.ensures.last c.popped_waiting-callee.ensures.left in
    if_both c.call_answer.result (IsCallOf s.dialect callee list) IsAnswer (IsDone s (steps.Call token callees.Answer n) old new)
    (λ a given sound. done_call_answer s old between new list token n callee a c.in_ok-arguments.ensures.taken one given sound)
    c.call_answer.ensures.call c.call_answer.ensures.answer
