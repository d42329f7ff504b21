use Rattle.std.proofs.Common.{◌∙◌, ap}
use Rattle.wgsl_rules.specs.Layout.{has_layout}
use Rattle.wgsl_values.specs.View.{steps_of}
use Rattle.wgsl_layout.specs.FlatCells.{flat_value}
use Rattle.wgsl_layout.proofs.FlatPuts.{has-room, leads-there, part-is}
use Rattle.wgsl_layout.proofs.flat.FlatCell.part_at.Goals as goal

pub part_of-requires-clause-room : goal.part_of-requires-clause-room
part_of-requires-clause-room c = has-room c.self.inside (flat_value c.self.inside) c.len.result c.self.invariant c.len.ensures

pub part_of-requires-clause-there : goal.part_of-requires-clause-there
part_of-requires-clause-there c = leads-there c.self.inside (flat_value c.self.inside) (steps_of c.args.view.now) c.self.invariant (rw (← c.self.view_is) at c.requires)

pub returns-clause-part : goal.returns-clause-part
returns-clause-part c =
    rw (← c.self.view_is) (part-is c.self.inside (flat_value c.self.inside) (steps_of c.args.view.now) c.part_of.result c.len.result c.self.invariant c.len.ensures c.part_of.ensures.there c.part_of.ensures.whole c.part_of.ensures.found)

pub returns-clause-laid : goal.returns-clause-laid
returns-clause-laid c =
    let h = c.self.invariant in
    rw (← c.self.view_is) (ap has_layout h.typed ∙ h.laid)

pub returns-clause-storable : goal.returns-clause-storable
returns-clause-storable c = rw (← c.self.view_is) c.self.invariant.storable
