use Rattle.std.proofs.Common.{[], ◌∷◌, map, refl, sym}
use Rattle.std.proofs.lemmas.List.Elements.{All-append}
use Rattle.wgsl_rules.specs.View.{type_view}
use Rattle.wgsl_store.specs.Cells.{IsCell, cell_value}
use Rattle.wgsl_store.specs.MemoryLaws.{StaysKept}
use Rattle.wgsl_store.proofs.LaidOut.{laid-content}
use Rattle.wgsl_store.proofs.StoreCells.{added-cells, added-good, all-one}
use Rattle.wgsl_store.proofs.store.Store.add_bytes.Goals as goal

good : (c : goal.In_ok-push) → StaysKept c.args.self.now (map cell_value c.push.new.self.items)
good c =
    added-good c.args.self.now (map cell_value c.push.new.self.items) (cell_value c.in-Some.cell) (rw c.self.view_is at c.self.invariant.sound)
    (laid-content c.args.self.now c.args.bytes.now (type_view c.args.ty.now) (cell_value c.in-Some.cell) (sym (rw c.in-Some.is at c.in_ok-cell.ensures.value)))
    (added-cells cell_value c.self.inside.cells.items c.push.new.self.items c.args.self.now c.in-Some.cell (cell_value c.in-Some.cell) c.self.view_is c.in_ok-push.ensures.items refl)

pub invariant_of-self-2 : goal.invariant_of-self-2
invariant_of-self-2 c =
    let form : IsCell c.in-Some.cell = rw c.in-Some.is at c.in_ok-cell.ensures.cell in
    record {
      sound = (good c).sound;
      forms = rw c.in_ok-push.ensures.items (All-append IsCell c.self.inside.cells.items (c.in-Some.cell ∷ []) c.self.invariant.forms (all-one IsCell c.in-Some.cell form));
    }

pub returns-clause-sound : goal.returns-clause-sound
returns-clause-sound c = (good c).sound

pub returns-clause-kept : goal.returns-clause-kept
returns-clause-kept c = (good c).keeps
