use Rattle.wgsl_eval.proofs.WaitingSteps.{answers_more, below_waits, kept_answer, lasts_taken, taken_kept}
use Rattle.wgsl_eval.proofs.evaluator.Evaluator.taken.Goals as goal

pub loop-number-preserved : goal.loop-number-preserved
loop-number-preserved c =
    let meanings = c.args.self.now.meanings.items in
    let old = c.loop-number.answers.items in
    let mid = c.keep_last.new.answers.items in
    let new = c.popped_waiting-answer.new.answers.items in
    let a = c.popped_waiting-answer.result in
    let one = taken_kept meanings old mid new a c.in_ok-keep_last.ensures.kept c.popped_waiting-answer.ensures.last c.popped_waiting-answer.ensures.left in
    record {
      taken = lasts_taken meanings c.loop-number.number c.args.answers.now.items old new c.loop-number.list.items c.push.new.self.items a
          c.in_ok-push.ensures.items c.loop-number.invariant.taken one;
      left = below_waits meanings mid new c.popped_waiting-answer.ensures.left c.in_ok-keep_last.ensures.left;
      sound = answers_more c.loop-number.list.items c.push.new.self.items a c.in_ok-push.ensures.items c.loop-number.invariant.sound
          (kept_answer meanings old mid a c.in_ok-keep_last.ensures.kept c.popped_waiting-answer.ensures.last);
    }
