use Rattle.wgsl_rules.proofs.TypeParts.{ref_part-none}
use Rattle.wgsl_rules.proofs.lemmas.Views.{not-Ref}
use Rattle.wgsl_rules.proofs.ty.Type.as_reference.Goals as goal

pub returns-in_default : goal.returns-in_default
returns-in_default c = ref_part-none _ (not-Ref _ c.in_default.not-Ref)
