use Rattle.wgsl_scalar.proofs.lemmas.CommonKinds.{common_types}
use Rattle.wgsl_scalar.proofs.laws.common_kinds_are_common_types.Goals as goal

pub returns : goal.returns
returns c = common_types
