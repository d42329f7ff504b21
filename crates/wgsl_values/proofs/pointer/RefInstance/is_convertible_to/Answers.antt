use Rattle.std.proofs.Common.{sym, ◌∙◌}
use Rattle.wgsl_values.proofs.Conversions.{ref-own, ref-read, ref-unread}
use Rattle.wgsl_values.proofs.pointer.RefInstance.is_convertible_to.Goals as goal

pub returns-then-has_ty : goal.returns-then-has_ty
returns-then-has_ty c = ref-own _ _ _ _ c.has_ty.result c.has_ty.ensures c.if-has_ty.true

pub returns-then-is_read : goal.returns-then-is_read
returns-then-is_read c = ref-read _ _ _ _ c.has_ty.result _ c.has_ty.ensures c.if-has_ty.false (sym c.is_read.ensures ∙ c.if-is_read.true) c.eq.ensures

pub returns-else-is_read : goal.returns-else-is_read
returns-else-is_read c = c.if-is_read.false ∙ ref-unread _ _ _ _ c.has_ty.result c.has_ty.ensures c.if-has_ty.false (sym c.is_read.ensures ∙ c.if-is_read.false)
