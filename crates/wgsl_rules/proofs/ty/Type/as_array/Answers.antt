use Rattle.wgsl_rules.proofs.TypeParts.{array_part-none}
use Rattle.wgsl_rules.proofs.lemmas.Views.{not-Array}
use Rattle.wgsl_rules.proofs.ty.Type.as_array.Goals as goal

pub returns-in_default : goal.returns-in_default
returns-in_default c = array_part-none _ (not-Array _ c.in_default.not-Array)
