use Rattle.std.proofs.Common.{sym}
use Rattle.wgsl_eval.proofs.WaitingSteps.{copy_waits, kept_copy}
use Rattle.wgsl_eval.proofs.evaluator.Evaluator.keep.Goals as goal

pub returns-clause-kept : goal.returns-clause-kept
returns-clause-kept c =
    kept_copy c.args.self.now.meanings.items c.args.answers.now.items c.popped_waiting-name.new.answers.items c.push.new.self.items
    c.args.number c.named_value.result.now c.in_ok-value.value (sym c.requires.named)
    c.named_value.ensures c.in_ok-value.ensures.value c.popped_waiting-name.ensures.left c.in_ok-push.ensures.items c.requires.waiting

pub returns-clause-left : goal.returns-clause-left
returns-clause-left c =
    copy_waits c.args.self.now.meanings.items c.args.answers.now.items c.popped_waiting-name.new.answers.items c.push.new.self.items c.in_ok-value.value
    c.popped_waiting-name.ensures.left c.in_ok-push.ensures.items c.requires.waiting (returns-clause-kept c)
