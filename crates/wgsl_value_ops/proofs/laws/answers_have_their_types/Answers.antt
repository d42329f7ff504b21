use Rattle.wgsl_value_ops.proofs.Types.{answer-typed, one-typed}
use Rattle.wgsl_value_ops.proofs.laws.answers_have_their_types.Goals as goal

pub returns : goal.returns
returns c = record { two = answer-typed; one = one-typed }
