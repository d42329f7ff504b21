use Rattle.wgsl_rules.proofs.lemmas.Converted.{inner_converted-type}
use Rattle.wgsl_rules.proofs.laws.inner_conversions_give_their_type.Goals as goal

pub returns : goal.returns
returns c = inner_converted-type
