use Rattle.std.proofs.Common.{Option, sym, subst}
use Rattle.wgsl_nodes.specs.Places.{IsPartAt, part_with}
use Rattle.wgsl_nodes.specs.declared.places.Place.{Place}
use Rattle.wgsl_nodes.proofs.Parts.{part-with-is}
use Rattle.wgsl_nodes.proofs.places.part_with.Goals as goal

pub returns-clause-on_table : goal.returns-clause-on_table
returns-clause-on_table c = λ t few is.
    subst (λ (o : Option Place). IsPartAt c.args.nodes.now c.args.place.offset (part_with c.args.elements c.args.index t) o) (sym c.part_of_with.ensures)
    (part-with-is c.args.nodes.now c.args.place c.args.index c.args.elements t few is)
