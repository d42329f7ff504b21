use Rattle.wgsl_rules.specs.View.{type_view}
use Rattle.wgsl_values.specs.View.{value_of}
use Rattle.wgsl_values.proofs.Conversions.{kept-here, kept-not}
use Rattle.wgsl_values.proofs.instance.Instance.kept.Goals as goal

pub returns-in_ok-clone : goal.returns-in_ok-clone
returns-in_ok-clone c =
    kept-here (value_of c.args.self.now) _ (type_view c.args.ty.now) c.has_ty.result c.has_ty.ensures c.if-has_ty.true c.in_ok-clone.ensures

pub returns-else-has_ty : goal.returns-else-has_ty
returns-else-has_ty c = kept-not (value_of c.args.self.now) (type_view c.args.ty.now) c.has_ty.result c.has_ty.ensures c.if-has_ty.false
