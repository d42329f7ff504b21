use Rattle.std.proofs.Common.{map, slice_set}
use Rattle.std.proofs.lemmas.List.Elements.{All-set}
use Rattle.wgsl_rules.specs.Access.{can_write}
use Rattle.wgsl_values.specs.View.{reference_of}
use Rattle.wgsl_layout.specs.Buffers.{decode}
use Rattle.wgsl_store.specs.Cells.{IsCell, cell_value}
use Rattle.wgsl_store.specs.Copies.{in_bytes}
use Rattle.wgsl_layout.specs.LaidOut.{CameTo}
use Rattle.wgsl_store.specs.Memory.{held, put_cells}
use Rattle.wgsl_store.specs.MemoryLaws.{StaysKept}
use Rattle.wgsl_store.proofs.LaidCells.{came-cells, came-good}
use Rattle.wgsl_store.proofs.LaidOut.{laid-content}
use Rattle.wgsl_store.proofs.store.Store.put_bytes.Goals as goal

came : (c : goal.After-self-1) → let r = reference_of c.args.reference.now in CameTo c.write_bytes.result (in_bytes c.args.self.now r) (can_write r.access) (held c.args.self.now r) (λ w. put_cells c.args.self.now r w) c.args.self.now
    (map cell_value (slice_set c.self.inside.cells.items c.cell.result c.write_bytes.new.self)) (decode c.args.bytes.now r.ty)
came c =
    let r = reference_of c.args.reference.now in
    came-cells cell_value c.write_bytes.result c.self.inside.cells.items c.args.self.now r c.cell.result c.index_mut-cell.result.now c.write_bytes.new.self (decode c.args.bytes.now r.ty)
    c.self.view_is c.requires c.cell.ensures c.index_mut-cell.ensures.value c.write_bytes.ensures.put

good : (c : goal.After-self-1) → StaysKept c.args.self.now (map cell_value (slice_set c.self.inside.cells.items c.cell.result c.write_bytes.new.self))
good c =
    let r = reference_of c.args.reference.now in
    came-good c.write_bytes.result (in_bytes c.args.self.now r) (can_write r.access) c.args.self.now (map cell_value (slice_set c.self.inside.cells.items c.cell.result c.write_bytes.new.self)) r (decode c.args.bytes.now r.ty)
    (rw c.self.view_is at c.self.invariant.sound) (λ w e. laid-content c.args.self.now c.args.bytes.now r.ty w e) (came c)

pub invariant_of-self : goal.invariant_of-self
invariant_of-self c = record {
  sound = (good c).sound;
  forms = All-set IsCell c.self.inside.cells.items c.cell.result c.write_bytes.new.self c.write_bytes.ensures.cell c.self.invariant.forms;
}

pub returns-clause-put : goal.returns-clause-put
returns-clause-put c = came c

pub returns-clause-sound : goal.returns-clause-sound
returns-clause-sound c = (good c).sound

pub returns-clause-kept : goal.returns-clause-kept
returns-clause-kept c = (good c).keeps
