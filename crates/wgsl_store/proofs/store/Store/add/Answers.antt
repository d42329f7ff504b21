use Rattle.std.proofs.Common.{[], ◌∷◌, map}
use Rattle.std.proofs.lemmas.List.Elements.{All-append}
use Rattle.wgsl_values.specs.View.{value_of}
use Rattle.wgsl_store.specs.Cells.{IsCell, cell_value}
use Rattle.wgsl_store.specs.MemoryLaws.{StaysKept}
use Rattle.wgsl_store.proofs.StoreCells.{added-cells, added-good, all-one}
use Rattle.wgsl_store.proofs.store.Store.add.Goals as goal

good : (c : goal.In_ok-push) → StaysKept c.args.self.now (map cell_value c.push.new.self.items)
good c =
    added-good c.args.self.now (map cell_value c.push.new.self.items) (value_of c.args.value) (rw c.self.view_is at c.self.invariant.sound) c.requires
    (added-cells cell_value c.self.inside.cells.items c.push.new.self.items c.args.self.now c.in_ok-cell.cell (value_of c.args.value) c.self.view_is c.in_ok-push.ensures.items c.in_ok-cell.ensures.value)

pub invariant_of-self-2 : goal.invariant_of-self-2
invariant_of-self-2 c = record {
  sound = (good c).sound;
  forms = rw c.in_ok-push.ensures.items (All-append IsCell c.self.inside.cells.items (c.in_ok-cell.cell ∷ []) c.self.invariant.forms (all-one IsCell c.in_ok-cell.cell c.in_ok-cell.ensures.cell));
}

pub returns-clause-sound : goal.returns-clause-sound
returns-clause-sound c = (good c).sound

pub returns-clause-kept : goal.returns-clause-kept
returns-clause-kept c = (good c).keeps
