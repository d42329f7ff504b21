use Rattle.std.proofs.Common.{◌≡◌, map, slice_set}
use Rattle.std.proofs.lemmas.List.Elements.{All-set}
use Rattle.wgsl_rules.specs.Paths.{viewed}
use Rattle.wgsl_rules.specs.Values.{type_of}
use Rattle.wgsl_values.specs.View.{value_of, reference_of}
use Rattle.wgsl_store.specs.Cells.{IsCell, cell_value}
use Rattle.wgsl_store.specs.Memory.{held}
use Rattle.wgsl_store.proofs.StoreCells.{IsReplaced, held-there, replaced-among}
use Rattle.wgsl_store.proofs.store.Store.replace.Goals as goal

-- what the reference holds is what its view leads to in the cell
led : (c : goal.After-self-1) → held c.args.self.now (reference_of c.args.reference.now) ≡ viewed (reference_of c.args.reference.now).view (cell_value c.index_mut-cell.result.now)
led c =
    held-there cell_value c.self.inside.cells.items c.args.self.now (reference_of c.args.reference.now) (λ v. type_of v ≡ (reference_of c.args.reference.now).ty) c.cell.result c.index_mut-cell.result.now
    c.self.view_is c.requires.kept c.cell.ensures c.index_mut-cell.ensures.value

changed : (c : goal.After-self-1) → IsReplaced value_of c.replace.result c.args.self.now (map cell_value (slice_set c.self.inside.cells.items c.cell.result c.replace.new.self)) (reference_of c.args.reference.now) (value_of c.args.value.now)
changed c =
    replaced-among cell_value value_of c.replace.result c.self.inside.cells.items c.args.self.now (reference_of c.args.reference.now) c.cell.result c.replace.new.self c.index_mut-cell.result.now (value_of c.args.value.now)
    c.self.view_is (rw c.self.view_is at c.self.invariant.sound) c.requires.content (led c) c.cell.ensures c.index_mut-cell.ensures.value c.replace.ensures.exchanged c.replace.ensures.err

pub invariant_of-self : goal.invariant_of-self
invariant_of-self c = record {
  sound = (changed c).good.sound;
  forms = All-set IsCell c.self.inside.cells.items c.cell.result c.replace.new.self c.replace.ensures.cell c.self.invariant.forms;
}

pub returns-clause-exchanged : goal.returns-clause-exchanged
returns-clause-exchanged c = (changed c).exchanged

pub returns-clause-err : goal.returns-clause-err
returns-clause-err c = (changed c).same

pub returns-clause-content : goal.returns-clause-content
returns-clause-content c = (changed c).content

pub returns-clause-sound : goal.returns-clause-sound
returns-clause-sound c = (changed c).good.sound

pub returns-clause-kept : goal.returns-clause-kept
returns-clause-kept c = (changed c).good.keeps
