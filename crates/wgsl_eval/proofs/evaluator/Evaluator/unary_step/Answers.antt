use Rattle.wgsl_source.specs.declared.expression.Step.TheVariants as steps
use Rattle.wgsl_eval.specs.Answers.{IsAnswer}
use Rattle.wgsl_eval.specs.Evaluators.{setting_of}
use Rattle.wgsl_eval.specs.Given.{IsOfOne, UnlessRefused}
use Rattle.wgsl_eval.specs.Waitings.{IsDone}
use Rattle.wgsl_eval.proofs.WaitingSteps.{done_unary, if_both, taken_kept}
use Rattle.wgsl_eval.proofs.evaluator.Evaluator.unary_step.Goals as goal

pub returns-clause-done : goal.returns-clause-done
returns-clause-done c =
    let s = setting_of c.args.self.now in
    let old = c.args.answers.now.items in
    let new = c.popped_waiting-operand.new.answers.items in
    let operand = c.popped_waiting-operand.result in
    let op = c.args.operator in
    let token = c.args.token in
    let taken = taken_kept s.meanings old c.keep_last.new.answers.items new operand c.in_ok-keep_last.ensures.kept c.popped_waiting-operand.ensures.last c.popped_waiting-operand.ensures.left in
    if_both c.unary.result (λ a. UnlessRefused s.source token a (IsOfOne op operand a)) IsAnswer (IsDone s (steps.Unary op token) old new)
    (λ a given sound. done_unary s old new op token operand a taken given sound) c.unary.ensures.given c.unary.ensures.answer
