use Rattle.wgsl_rules.proofs.TypeParts.{mat_part-none}
use Rattle.wgsl_rules.proofs.lemmas.Views.{not-Mat}
use Rattle.wgsl_rules.proofs.ty.Type.as_mat.Goals as goal

pub returns-in_default : goal.returns-in_default
returns-in_default c = mat_part-none _ (not-Mat _ c.in_default.not-Mat)
