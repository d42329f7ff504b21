use Rattle.std.proofs.Common.{◌≡◌, map, slice_set}
use Rattle.std.proofs.lemmas.List.Elements.{All-set}
use Rattle.wgsl_rules.specs.Values.{atomic_of, type_of}
use Rattle.wgsl_scalar.specs.Literals.{literal_of}
use Rattle.wgsl_values.specs.View.{reference_of}
use Rattle.wgsl_store.specs.Cells.{IsCell, cell_value}
use Rattle.wgsl_store.specs.Memory.{held, put_cells}
use Rattle.wgsl_store.specs.MemoryLaws.{StaysKept}
use Rattle.wgsl_layout.proofs.AtomicParts.{fits-led}
use Rattle.wgsl_store.proofs.Atomics.{leads-atomic, names-atomic}
use Rattle.wgsl_store.proofs.StoreCells.{replaced-cells, replaced-good}
use Rattle.wgsl_store.proofs.store.Store.put_atomic_number.Goals as goal

pub put_atomic_number-requires-clause-there : goal.put_atomic_number-requires-clause-there
put_atomic_number-requires-clause-there c =
    leads-atomic cell_value c.self.inside.cells.items c.args.self.now (reference_of c.args.reference.now) (type_of (literal_of c.args.number)) c.cell.result c.index_mut-cell.result.now
    c.self.view_is c.self.invariant.sound c.requires.kept c.requires.typed c.cell.ensures c.index_mut-cell.ensures.value

changed : (c : goal.After-self-1) → map cell_value (slice_set c.self.inside.cells.items c.cell.result c.put_atomic_number.new.self) ≡ put_cells c.args.self.now (reference_of c.args.reference.now) (atomic_of (literal_of c.args.number))
changed c =
    replaced-cells cell_value c.self.inside.cells.items c.args.self.now (reference_of c.args.reference.now) c.cell.result c.put_atomic_number.new.self c.index_mut-cell.result.now (atomic_of (literal_of c.args.number))
    c.self.view_is c.cell.ensures c.index_mut-cell.ensures.value c.put_atomic_number.ensures.put

good : (c : goal.After-self-1) → StaysKept c.args.self.now (map cell_value (slice_set c.self.inside.cells.items c.cell.result c.put_atomic_number.new.self))
good c =
    let cells = c.args.self.now in
    let r = reference_of c.args.reference.now in
    let w = literal_of c.args.number in
    let sound = rw c.self.view_is at c.self.invariant.sound in
    replaced-good cells (map cell_value (slice_set c.self.inside.cells.items c.cell.result c.put_atomic_number.new.self)) r (atomic_of w) sound (c.requires.storable, tt)
    (fits-led w (held cells r) (names-atomic cells r (type_of w) sound c.requires.kept c.requires.typed)) (changed c)

pub invariant_of-self : goal.invariant_of-self
invariant_of-self c = record {
  sound = (good c).sound;
  forms = All-set IsCell c.self.inside.cells.items c.cell.result c.put_atomic_number.new.self c.put_atomic_number.ensures.cell c.self.invariant.forms;
}

pub returns-clause-put : goal.returns-clause-put
returns-clause-put c = changed c

pub returns-clause-sound : goal.returns-clause-sound
returns-clause-sound c = (good c).sound

pub returns-clause-kept : goal.returns-clause-kept
returns-clause-kept c = (good c).keeps
