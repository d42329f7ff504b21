use Rattle.wgsl_rules.proofs.lemmas.CommonTypes.{common_types_commute}
use Rattle.wgsl_rules.proofs.conv.common_type_is_symmetric.Goals as goal

pub returns : goal.returns
returns c = common_types_commute
