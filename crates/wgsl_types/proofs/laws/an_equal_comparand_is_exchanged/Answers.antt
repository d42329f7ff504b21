use Rattle.wgsl_types.proofs.Exchanges.{equal_comparand}
use Rattle.wgsl_types.proofs.laws.an_equal_comparand_is_exchanged.Goals as goal

pub returns : goal.returns
returns c = equal_comparand
