use Rattle.std.proofs.Common.{string_bytes, ap, ◌∙◌, arith}
use Rattle.wgsl_script.specs.Lines.{answer_text, refusal_name}
use Rattle.wgsl_script.proofs.AnswerLines.{ended, refusal_ended}
use Rattle.wgsl_script.proofs.answer.write_answer.Goals as goal
use Rattle.wgsl_script.proofs.answer.write_answer.Goals.{in-Ok+in_ok-write_text-in-Ok, in-Err+in_ok-write_refusal-in-Err}

pub returns : goal.returns
returns c =
    let pushed = rw (c.push.ensures.ascii (omega arith)) at c.push.ensures.bytes in
    elim c.match-answer.branch [
      | in-Ok+in_ok-write_text-in-Ok w ↦ rw w.in-Ok.is (ended c.push.result (string_bytes c.args.text.now) (string_bytes c.match-answer.text) (string_bytes c.push.new.self) (answer_text w.in-Ok.answer) pushed (ap string_bytes w.text-is ∙ w.in_ok-write_text-in-Ok.ensures))
      | in-Err+in_ok-write_refusal-in-Err w ↦ rw w.in-Err.is (refusal_ended c.push.result (string_bytes c.args.text.now) (string_bytes c.match-answer.text) (string_bytes c.push.new.self) (refusal_name w.in-Err.stop) pushed (rw w.text-is w.in_ok-write_refusal-in-Err.ensures))
    ]
