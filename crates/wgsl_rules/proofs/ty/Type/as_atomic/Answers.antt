use Rattle.wgsl_rules.proofs.TypeParts.{atomic_part-none}
use Rattle.wgsl_rules.proofs.lemmas.Views.{not-Atomic}
use Rattle.wgsl_rules.proofs.ty.Type.as_atomic.Goals as goal

pub returns-in_default : goal.returns-in_default
returns-in_default c = atomic_part-none _ (not-Atomic _ c.in_default.not-Atomic)
