use Rattle.std.proofs.Common.{◌∙◌}
use Rattle.wgsl_rules.specs.View.{type_view}
use Rattle.wgsl_layout.specs.Plan.{plan_view}
use Rattle.wgsl_layout.proofs.Plans.{view-row}
use Rattle.wgsl_layout.proofs.Locating.{column-there, column-range}
use Rattle.wgsl_layout.proofs.located.Located.column.Goals as goal

pub in_row-requires : goal.in_row-requires
in_row-requires c =
    let there = rw (c.in-Row.is, view-row, ← c.deref.ensures) at c.requires in
    column-there c.args.self.count c.args.columns c.args.rows c.from.result c.in-Row.far (type_view c.args.component.now) (plan_view c.deref.result.now) c.args.self.start c.args.self.len there c.from.ensures

pub returns-clause-range : goal.returns-clause-range
returns-clause-range c =
    let there = rw (c.in-Row.is, view-row) at c.requires in
    c.in_row.ensures.range
    ∙ column-range c.args.self.count c.args.columns c.args.rows c.from.result c.in-Row.far c.args.i (type_view c.args.component.now) (plan_view c.in-Row.column.value) c.args.self.start c.args.self.len there c.from.ensures
