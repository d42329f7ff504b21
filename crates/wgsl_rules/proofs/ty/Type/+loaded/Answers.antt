use Rattle.wgsl_rules.proofs.TypeParts.{loaded_type-same}
use Rattle.wgsl_rules.proofs.lemmas.Views.{not-Ref}
use Rattle.wgsl_rules.proofs.ty.Type.+loaded.Goals as goal

pub returns-in_default : goal.returns-in_default
returns-in_default t c = loaded_type-same _ (not-Ref _ c.in_default.not-Ref)
