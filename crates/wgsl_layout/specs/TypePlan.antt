-- What the code knows of a type beside its plan, while it makes the plan.
use Rattle.std.specs.Prelude.{◌≡◌}
use Rattle.wgsl_rules.specs.Types.{Ty}
use Rattle.wgsl_rules.specs.Layout.{has_layout}
use Rattle.wgsl_rules.specs.Measures.{AreMeasuresOf}
use Rattle.wgsl_layout.specs.Plan.{plan_view, plan_of}
use Rattle.wgsl_layout.specs.declared.make.TypePlan.{TypePlan}

pub record IsPlanOf (t : Ty) (p : TypePlan) : Type 0 where
  pub plan : plan_view p.plan ≡ plan_of t
  pub measures : AreMeasuresOf t p.measures
  pub layout : p.has_layout ≡ has_layout t
