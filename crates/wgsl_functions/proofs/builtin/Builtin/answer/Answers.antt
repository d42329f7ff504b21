use Rattle.wgsl_functions.proofs.Counts.{no-one, no-two, no-three, no-four, no-other}
use Rattle.wgsl_functions.proofs.builtin.Builtin.answer.Goals as goal
use Rattle.wgsl_functions.proofs.builtin.Builtin.answer.Goals.{in_default-via-in-One+in_default, in_default-via-in-Two+in_default, in_default-via-in-Three+in_default, in_default-via-in-InsertBits+in_default, in_default-via-in_default}

pub returns-in_default-clause-value : goal.returns-in_default-clause-value
returns-in_default-clause-value c =
    elim c.in_default.branch [
      | in_default-via-in-One+in_default w ↦ rw w.in_default.is-0 (no-one w.in_default.field-0-0 c.args.stage c.args.values.now w.in_default.is-1.1)
      | in_default-via-in-Two+in_default w ↦ rw w.in_default.is-0 (no-two w.in_default.field-0-0 c.args.stage c.args.values.now w.in_default.is-1.1)
      | in_default-via-in-Three+in_default w ↦ rw w.in_default.is-0 (no-three w.in_default.field-0-0 c.args.stage c.args.values.now w.in_default.is-1.1)
      | in_default-via-in-InsertBits+in_default w ↦ rw w.in_default.is-0 (no-four c.args.stage c.args.values.now w.in_default.is-1.1)
      | in_default-via-in_default w ↦ no-other c.args.self c.args.stage c.args.values.now w.in_default.not-One-0 w.in_default.not-Two-0 w.in_default.not-Three-0 w.in_default.not-InsertBits-0
    ]
