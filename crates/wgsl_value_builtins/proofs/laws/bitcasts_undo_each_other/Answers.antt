use Rattle.wgsl_value_builtins.proofs.Casts.{casts-undo}
use Rattle.wgsl_value_builtins.proofs.laws.bitcasts_undo_each_other.Goals as goal

pub returns : goal.returns
returns c = casts-undo
