use Rattle.wgsl_rules.specs.View.{type_view, struct_view as struct_type_view}
use Rattle.wgsl_values.proofs.Typed.{struct-has}
use Rattle.wgsl_values.proofs.lemmas.Views.{struct_view-is}
use Rattle.wgsl_values.proofs.structure.StructInstanceTy.has_ty.Goals as goal

pub returns-in-Some : goal.returns-in-Some
returns-in-Some c =
    rw (struct_view-is c.args.self.now) (struct-has c.args.self.now.ty (struct_type_view c.in-Some.other.now) (type_view c.args.ty.now) c.equals.result c.in-Some.ensures c.equals.ensures)
