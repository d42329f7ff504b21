use Rattle.wgsl_rules.proofs.TypeParts.{struct_part-none}
use Rattle.wgsl_rules.proofs.lemmas.Views.{not-Struct}
use Rattle.wgsl_rules.proofs.ty.Type.as_struct.Goals as goal

pub returns-in_default : goal.returns-in_default
returns-in_default c = struct_part-none _ (not-Struct _ c.in_default.not-Struct)
