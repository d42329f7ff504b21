use Rattle.wgsl_value_ops.proofs.Storables.{answer-storable}
use Rattle.wgsl_value_ops.proofs.laws.answers_are_storable.Goals as goal

pub returns : goal.returns
returns c = answer-storable
