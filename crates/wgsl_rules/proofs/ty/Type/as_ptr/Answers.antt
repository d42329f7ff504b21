use Rattle.wgsl_rules.proofs.TypeParts.{ptr_part-none}
use Rattle.wgsl_rules.proofs.lemmas.Views.{not-Ptr}
use Rattle.wgsl_rules.proofs.ty.Type.as_ptr.Goals as goal

pub returns-in_default : goal.returns-in_default
returns-in_default c = ptr_part-none _ (not-Ptr _ c.in_default.not-Ptr)
