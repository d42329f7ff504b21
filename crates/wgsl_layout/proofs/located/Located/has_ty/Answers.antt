use Rattle.wgsl_rules.specs.View.{type_view}
use Rattle.wgsl_layout.proofs.Locating.{same-tells}
use Rattle.wgsl_layout.proofs.located.Located.has_ty.Goals as goal

pub returns-in-Whole : goal.returns-in-Whole
returns-in-Whole c = rw c.in-Whole.is (same-tells (type_view c.args.ty.now) (type_view c.in-Whole.own.now) c.eq.result c.eq.ensures)

pub returns-in-Component : goal.returns-in-Component
returns-in-Component c = rw c.in-Component.is (same-tells (type_view c.args.ty.now) (type_view c.in-Component.own.now) c.eq-in-Component.result c.eq-in-Component.ensures)
