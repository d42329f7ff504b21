use Rattle.wgsl_source.specs.Readings.{word_at}
use Rattle.wgsl_source.specs.declared.expression.Step.TheVariants as steps
use Rattle.wgsl_eval.specs.Answers.{IsAnswer}
use Rattle.wgsl_eval.specs.Calls.{IsTemplate}
use Rattle.wgsl_eval.specs.Evaluators.{setting_of}
use Rattle.wgsl_eval.specs.Waitings.{IsDone}
use Rattle.wgsl_eval.proofs.WaitingSteps.{done_template, if_both}
use Rattle.wgsl_eval.proofs.evaluator.Evaluator.template_step.Goals as goal

pub returns-clause-done : goal.returns-clause-done
returns-clause-done c =
    let s = setting_of c.args.self.now in
    let old = c.args.answers.now.items in
    let new = c.taken.new.answers.items in
    let list = c.in_ok-arguments.arguments.items in
    let token = c.args.token in
    let n = c.args.count in
    if_both c.template.result (IsTemplate s (word_at s.source token) list) IsAnswer (IsDone s (steps.Template token n) old new)
    (λ a given sound. done_template s old new list token n a c.in_ok-arguments.ensures.taken given sound)
    c.template.ensures.template c.template.ensures.answer
