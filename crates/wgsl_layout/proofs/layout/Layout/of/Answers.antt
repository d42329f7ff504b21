use Rattle.std.proofs.Common.{◌≡◌, true, sym, ap, ◌∙◌}
use Rattle.wgsl_rules.specs.Layout.{has_layout}
use Rattle.wgsl_rules.specs.View.{type_view}
use Rattle.wgsl_layout.specs.Plan.{plan_of}
use Rattle.wgsl_layout.proofs.LaidValues.{not-false}
use Rattle.wgsl_layout.proofs.layout.Layout.of.Goals as goal

pub invariant_of-result : goal.invariant_of-result
invariant_of-result c =
    let same : type_view c.in_ok-ty.ty ≡ type_view c.args.ty.now = c.in_ok-ty.ensures in
    let laid : has_layout (type_view c.args.ty.now) ≡ true = sym c.in_ok-of_type.ensures.layout ∙ not-false c.in_ok-of_type.of_type.has_layout c.if-not-of_type.false in
    record { laid = ap has_layout same ∙ laid; planned = c.in_ok-of_type.ensures.plan ∙ ap plan_of (sym same) }

pub returns : goal.returns
returns c =
    let laid : has_layout (type_view c.args.ty.now) ≡ true = sym c.in_ok-of_type.ensures.layout ∙ not-false c.in_ok-of_type.of_type.has_layout c.if-not-of_type.false in
    (c.in_ok-ty.ensures, laid)
