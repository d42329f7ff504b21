use Rattle.std.proofs.Common.{sym, ◌∙◌}
use Rattle.wgsl_rules.specs.View.{type_view}
use Rattle.wgsl_values.specs.View.{struct_view}
use Rattle.wgsl_values.proofs.Conversions.{kept-here, kept-not, converted-struct}
use Rattle.wgsl_values.proofs.structure.StructInstanceConvert.convert_to.Goals as goal

pub returns-in_ok-clone : goal.returns-in_ok-clone
returns-in_ok-clone c =
    kept-here (struct_view c.args.self.now) _ (type_view c.args.ty.now) c.has_ty.result c.has_ty.ensures c.if-has_ty.true c.in_ok-clone.ensures
    ∙ sym (converted-struct c.args.self.now (type_view c.args.ty.now))

pub returns-else-has_ty : goal.returns-else-has_ty
returns-else-has_ty c =
    kept-not (struct_view c.args.self.now) (type_view c.args.ty.now) c.has_ty.result c.has_ty.ensures c.if-has_ty.false
    ∙ sym (converted-struct c.args.self.now (type_view c.args.ty.now))
