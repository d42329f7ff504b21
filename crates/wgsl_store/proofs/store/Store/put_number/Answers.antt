use Rattle.std.proofs.Common.{◌∙◌, map, slice_set}
use Rattle.std.proofs.lemmas.List.Elements.{All-set}
use Rattle.wgsl_scalar.specs.Literals.{literal_of}
use Rattle.wgsl_values.specs.View.{reference_of}
use Rattle.wgsl_store.specs.Cells.{IsCell, cell_value}
use Rattle.wgsl_layout.proofs.NumberPuts.{is-literal}
use Rattle.wgsl_store.proofs.NumberCells.{AreNumberCells, number-among, number-flat}
use Rattle.wgsl_store.proofs.store.Store.put_number.Goals as goal

-- the cells after the call
after : (c : goal.After-self-1) → AreNumberCells c.put_number.result c.args.self.now (map cell_value (slice_set c.self.inside.cells.items c.cell.result c.put_number.new.self)) (reference_of c.args.reference.now) c.args.at (literal_of c.args.number)
after c =
    number-among cell_value c.put_number.result c.self.inside.cells.items c.args.self.now (reference_of c.args.reference.now) c.cell.result c.put_number.new.self c.index_mut-cell.result.now c.args.at (literal_of c.args.number)
    c.self.view_is (rw c.self.view_is at c.self.invariant.sound) (is-literal c.args.number) c.a_literal_may_be_stored.ensures c.requires.there c.cell.ensures c.index_mut-cell.ensures.value c.put_number.ensures.bytes c.put_number.ensures.put c.put_number.ensures.same

pub invariant_of-self : goal.invariant_of-self
invariant_of-self c = record {
  sound = (after c).good.sound;
  forms = All-set IsCell c.self.inside.cells.items c.cell.result c.put_number.new.self c.put_number.ensures.cell c.self.invariant.forms;
}

pub returns-clause-bytes : goal.returns-clause-bytes
returns-clause-bytes c =
    c.put_number.ensures.bytes
    ∙ number-flat cell_value c.self.inside.cells.items c.args.self.now (reference_of c.args.reference.now) c.cell.result c.index_mut-cell.result.now c.self.view_is c.requires.kept c.cell.ensures c.index_mut-cell.ensures.value

pub returns-clause-put : goal.returns-clause-put
returns-clause-put c = (after c).is_put

pub returns-clause-same : goal.returns-clause-same
returns-clause-same c = (after c).same

pub returns-clause-sound : goal.returns-clause-sound
returns-clause-sound c = (after c).good.sound

pub returns-clause-kept : goal.returns-clause-kept
returns-clause-kept c = (after c).good.keeps

pub returns-clause-layouts : goal.returns-clause-layouts
returns-clause-layouts c = (after c).layouts
