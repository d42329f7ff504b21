use Rattle.wgsl_value_builtins.proofs.Reversed.{reversed-twice}
use Rattle.wgsl_value_builtins.proofs.laws.reversed_twice_is_itself.Goals as goal

pub returns : goal.returns
returns c = reversed-twice
