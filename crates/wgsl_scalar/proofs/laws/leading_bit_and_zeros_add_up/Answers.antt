use Rattle.wgsl_scalar.proofs.FieldLaws.{leading_add_up}
use Rattle.wgsl_scalar.proofs.laws.leading_bit_and_zeros_add_up.Goals as goal

pub returns : goal.returns
returns c = leading_add_up
