use Rattle.wgsl_values.proofs.Matrices.{transposed_twice}
use Rattle.wgsl_values.proofs.laws.transposed_twice_is_itself.Goals as goal

pub returns : goal.returns
returns c = transposed_twice
