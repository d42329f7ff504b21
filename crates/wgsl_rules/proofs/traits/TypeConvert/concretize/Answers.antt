use Rattle.wgsl_rules.proofs.lemmas.CommonTypes.{concretized-converts}
use Rattle.wgsl_rules.proofs.traits.TypeConvert.concretize.Goals as goal

pub returns : goal.returns
returns c = concretized-converts _ _ c.in_ok-concretize.ensures
