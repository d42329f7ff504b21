use Rattle.std.proofs.Common.{◌∙◌, sym}
use Rattle.wgsl_rules.specs.View.{type_view}
use Rattle.wgsl_layout.proofs.Locating.{same-tells}
use Rattle.wgsl_layout.proofs.flat.sharing.Goals as goal

pub returns-in-Ok : goal.returns-in-Ok
returns-in-Ok c =
    let told = same-tells (type_view c.ty.result.now) (type_view c.args.ty.now) c.eq.result c.eq.ensures in
    c.in-Ok.ensures ∙ sym c.deref.ensures ∙ sym c.ty.ensures.ty ∙ told.0 c.if-eq.true
