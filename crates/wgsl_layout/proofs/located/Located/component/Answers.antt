use Rattle.std.proofs.Common.{◌∙◌}
use Rattle.wgsl_rules.specs.View.{type_view}
use Rattle.wgsl_layout.proofs.Plans.{view-components}
use Rattle.wgsl_layout.proofs.Locating.{component-there, component-range}
use Rattle.wgsl_layout.proofs.located.Located.component.Goals as goal

pub in_row-requires : goal.in_row-requires
in_row-requires c =
    let there = rw (c.in-Components.is, view-components) at c.requires in
    component-there c.args.self.count c.args.n c.from.result c.in-Components.far (type_view c.args.component.now) c.args.self.start c.args.self.len there c.from.ensures

pub returns-clause-range : goal.returns-clause-range
returns-clause-range c =
    let there = rw (c.in-Components.is, view-components) at c.requires in
    c.in_row.ensures.range
    ∙ component-range c.args.self.count c.args.n c.from.result c.in-Components.far c.args.i (type_view c.args.component.now) c.args.self.start c.args.self.len there c.from.ensures
