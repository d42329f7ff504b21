use Rattle.wgsl_rules.proofs.TypeParts.{vec_part-none}
use Rattle.wgsl_rules.proofs.lemmas.Views.{not-Vec}
use Rattle.wgsl_rules.proofs.ty.Type.as_vec.Goals as goal

pub returns-in_default : goal.returns-in_default
returns-in_default c = vec_part-none _ (not-Vec _ c.in_default.not-Vec)
