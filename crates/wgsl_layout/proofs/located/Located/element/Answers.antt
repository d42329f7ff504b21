use Rattle.std.proofs.Common.{◌∙◌}
use Rattle.wgsl_rules.specs.View.{type_view}
use Rattle.wgsl_layout.specs.Plan.{plan_view}
use Rattle.wgsl_layout.proofs.Plans.{view-row}
use Rattle.wgsl_layout.proofs.Reading.{array-there}
use Rattle.wgsl_layout.proofs.Locating.{element-range}
use Rattle.wgsl_layout.proofs.located.Located.element.Goals as goal

pub in_row-requires : goal.in_row-requires
in_row-requires c =
    let there = rw (c.in-Row.is, view-row, ← c.deref.ensures) at c.requires in
    (array-there c.args.n c.args.self.count c.unwrap_or-n.result c.in-Row.far (type_view c.args.element.now) (plan_view c.deref.result.now) c.args.self.start c.args.self.len there c.unwrap_or-n.ensures).1

pub returns-clause-range : goal.returns-clause-range
returns-clause-range c =
    let there = rw (c.in-Row.is, view-row) at c.requires in
    c.in_row.ensures.range
    ∙ element-range c.args.self.count c.unwrap_or-n.result c.in-Row.far c.args.i c.args.n (type_view c.args.element.now) (plan_view c.in-Row.part.value) c.args.self.start c.args.self.len there c.unwrap_or-n.ensures
