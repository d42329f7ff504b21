use Rattle.wgsl_source.specs.declared.expression.Step.TheVariants as steps
use Rattle.wgsl_eval.specs.Answers.{IsAnswer}
use Rattle.wgsl_eval.specs.Evaluators.{setting_of}
use Rattle.wgsl_eval.specs.Given.{IsOfTwo, UnlessRefused}
use Rattle.wgsl_eval.specs.Waitings.{IsDone}
use Rattle.wgsl_eval.proofs.WaitingSteps.{done_binary, if_both, taken_kept}
use Rattle.wgsl_eval.proofs.evaluator.Evaluator.binary_step.Goals as goal

pub returns-in-Ok-clause-done : goal.returns-in-Ok-clause-done
returns-in-Ok-clause-done c =
    let s = setting_of c.args.self.now in
    let old = c.args.answers.now.items in
    let between = c.popped_waiting-right.new.answers.items in
    let new = c.popped_waiting-left.new.answers.items in
    let left = c.popped_waiting-left.result in
    let right = c.popped_waiting-right.result in
    let op = c.args.operator in
    let token = c.args.token in
    let first = taken_kept s.meanings old c.keep_last.new.answers.items between right
    c.in_ok-keep_last.ensures.kept c.popped_waiting-right.ensures.last c.popped_waiting-right.ensures.left in
    let second = taken_kept s.meanings between c.keep_last-2.new.answers.items new left
    c.in-Ok.ensures.kept c.popped_waiting-left.ensures.last c.popped_waiting-left.ensures.left in
    if_both c.binary.result (λ a. UnlessRefused s.source token a (IsOfTwo s op left right a)) IsAnswer (IsDone s (steps.Binary op token) old new)
    (λ a given sound. done_binary s old between new op token left right a first second given sound) c.binary.ensures.given c.binary.ensures.answer
