use Rattle.wgsl_values.proofs.Conversions.{ptr-converts}
use Rattle.wgsl_values.proofs.pointer.PtrInstance.is_convertible_to.Goals as goal

pub returns : goal.returns
returns c = ptr-converts _ _ _ _ c.has_ty.result c.has_ty.ensures
