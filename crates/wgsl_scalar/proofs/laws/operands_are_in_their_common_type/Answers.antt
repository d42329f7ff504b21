use Rattle.wgsl_scalar.proofs.OperandLaws.{in_common_type}
use Rattle.wgsl_scalar.proofs.laws.operands_are_in_their_common_type.Goals as goal

pub returns : goal.returns
returns c = in_common_type
