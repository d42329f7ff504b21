use Rattle.std.proofs.Common.{◌≡◌, map, slice_set, subst, sym}
use Rattle.std.proofs.lemmas.List.Elements.{All-set}
use Rattle.std.specs.Prelude.{◌↔◌, IsTrue}
use Rattle.wgsl_rules.specs.Paths.{viewed}
use Rattle.wgsl_rules.specs.Refusals.{Outcome}
use Rattle.wgsl_rules.specs.Values.{Val, type_of}
use Rattle.wgsl_values.specs.View.{value_of, reference_of}
use Rattle.wgsl_store.specs.Cells.{IsCell, cell_value}
use Rattle.wgsl_layout.specs.Fitting.{FitsAt}
use Rattle.wgsl_store.specs.Memory.{held}
use Rattle.wgsl_store.specs.MemoryLaws.{StaysKept}
use Rattle.wgsl_store.proofs.StoreCells.{IsPutIf, held-there, put-if, put-if-good}
use Rattle.wgsl_store.proofs.store.Store.put.Goals as goal

-- what the reference holds is what its view leads to in the cell
led : (c : goal.After-self-1) → held c.args.self.now (reference_of c.args.reference.now) ≡ viewed (reference_of c.args.reference.now).view (cell_value c.index_mut-cell.result.now)
led c =
    held-there cell_value c.self.inside.cells.items c.args.self.now (reference_of c.args.reference.now) (λ v. type_of v ≡ (reference_of c.args.reference.now).ty) c.cell.result c.index_mut-cell.result.now
    c.self.view_is c.requires.kept c.cell.ensures c.index_mut-cell.ensures.value

changed : (c : goal.After-self-1) → IsPutIf c.put.result c.args.self.now (map cell_value (slice_set c.self.inside.cells.items c.cell.result c.put.new.self)) (reference_of c.args.reference.now) (value_of c.args.value.now)
changed c =
    put-if cell_value c.put.result c.self.inside.cells.items c.args.self.now (reference_of c.args.reference.now) c.cell.result c.put.new.self c.index_mut-cell.result.now (value_of c.args.value.now)
    c.self.view_is c.cell.ensures c.index_mut-cell.ensures.value c.put.ensures.put c.put.ensures.same

fit : (c : goal.After-self-1) → IsTrue c.put.result ↔ FitsAt (value_of c.args.value.now) (held c.args.self.now (reference_of c.args.reference.now))
fit c = subst (λ (o : Outcome Val). IsTrue c.put.result ↔ FitsAt (value_of c.args.value.now) o) (sym (led c)) c.put.ensures.fit

good : (c : goal.After-self-1) → StaysKept c.args.self.now (map cell_value (slice_set c.self.inside.cells.items c.cell.result c.put.new.self))
good c =
    put-if-good c.put.result c.args.self.now (map cell_value (slice_set c.self.inside.cells.items c.cell.result c.put.new.self)) (reference_of c.args.reference.now) (value_of c.args.value.now)
    (rw c.self.view_is at c.self.invariant.sound) c.requires.content (fit c).0 (changed c)

pub invariant_of-self : goal.invariant_of-self
invariant_of-self c = record {
  sound = (good c).sound;
  forms = All-set IsCell c.self.inside.cells.items c.cell.result c.put.new.self c.put.ensures.cell c.self.invariant.forms;
}

pub returns-clause-fit : goal.returns-clause-fit
returns-clause-fit c = fit c

pub returns-clause-put : goal.returns-clause-put
returns-clause-put c = (changed c).put

pub returns-clause-same : goal.returns-clause-same
returns-clause-same c = (changed c).same

pub returns-clause-sound : goal.returns-clause-sound
returns-clause-sound c = (good c).sound

pub returns-clause-kept : goal.returns-clause-kept
returns-clause-kept c = (good c).keeps
