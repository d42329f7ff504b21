use Rattle.wgsl_value_ops.proofs.OperatorLaws.{literals-joined}
use Rattle.wgsl_value_ops.proofs.laws.literals_are_joined_as_literals.Goals as goal

pub returns : goal.returns
returns c = literals-joined
