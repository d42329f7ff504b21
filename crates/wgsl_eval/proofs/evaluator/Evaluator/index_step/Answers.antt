use Rattle.wgsl_source.specs.declared.expression.Step.TheVariants as steps
use Rattle.wgsl_eval.specs.Answers.{IsAnswer}
use Rattle.wgsl_eval.specs.Evaluators.{setting_of}
use Rattle.wgsl_eval.specs.Parts.{IsElementOf}
use Rattle.wgsl_eval.specs.Waitings.{IsDone, answer_of}
use Rattle.wgsl_eval.proofs.WaitingSteps.{below_waits, done_index, if_both, taken_kept, taken_whole}
use Rattle.wgsl_eval.proofs.evaluator.Evaluator.index_step.Goals as goal

pub returns-clause-done : goal.returns-clause-done
returns-clause-done c =
    let s = setting_of c.args.self.now in
    let old = c.args.answers.now.items in
    let mid = c.keep_last.new.answers.items in
    let between = c.popped_waiting-index.new.answers.items in
    let new = c.popped_waiting-whole.new.answers.items in
    let index = c.popped_waiting-index.result in
    let whole = c.popped_waiting-whole.result in
    let token = c.args.token in
    let first = taken_kept s.meanings old mid between index c.in_ok-keep_last.ensures.kept c.popped_waiting-index.ensures.last c.popped_waiting-index.ensures.left in
    let second = taken_whole s.meanings between new whole c.popped_waiting-whole.ensures.last c.popped_waiting-whole.ensures.left
    (below_waits s.meanings mid between c.popped_waiting-index.ensures.left c.in_ok-keep_last.ensures.left) in
    if_both c.index.result (IsElementOf (answer_of s.meanings whole) index) IsAnswer (IsDone s (steps.Index token) old new)
    (λ a given sound. done_index s old between new token (answer_of s.meanings whole) index a first second given sound)
    c.index.ensures.element c.index.ensures.answer
