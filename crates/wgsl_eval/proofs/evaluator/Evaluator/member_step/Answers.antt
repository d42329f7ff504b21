use Rattle.wgsl_source.specs.Readings.{word_at}
use Rattle.wgsl_source.specs.declared.expression.Step.TheVariants as steps
use Rattle.wgsl_eval.specs.Answers.{IsAnswer}
use Rattle.wgsl_eval.specs.Evaluators.{setting_of}
use Rattle.wgsl_eval.specs.Parts.{IsMemberOf}
use Rattle.wgsl_eval.specs.Waitings.{IsDone, answer_of}
use Rattle.wgsl_eval.proofs.WaitingSteps.{done_member, if_both, taken_whole}
use Rattle.wgsl_eval.proofs.evaluator.Evaluator.member_step.Goals as goal

pub returns-clause-done : goal.returns-clause-done
returns-clause-done c =
    let s = setting_of c.args.self.now in
    let old = c.args.answers.now.items in
    let new = c.popped_waiting-whole.new.answers.items in
    let whole = c.popped_waiting-whole.result in
    let token = c.args.token in
    let taken = taken_whole s.meanings old new whole c.popped_waiting-whole.ensures.last c.popped_waiting-whole.ensures.left c.requires in
    if_both c.member.result (IsMemberOf (word_at s.source token) (answer_of s.meanings whole)) IsAnswer (IsDone s (steps.Member token) old new)
    (λ a given sound. done_member s old new token (answer_of s.meanings whole) a taken given sound) c.member.ensures.member c.member.ensures.answer
