use Rattle.wgsl_value_builtins.proofs.Symmetric.{symmetric}
use Rattle.wgsl_value_builtins.proofs.laws.min_and_max_are_symmetric.Goals as goal

pub returns : goal.returns
returns c = symmetric
