use Rattle.wgsl_value_builtins.proofs.Words.{packing-undoes}
use Rattle.wgsl_value_builtins.proofs.laws.packing_undoes_unpacking.Goals as goal

pub returns : goal.returns
returns c = packing-undoes
