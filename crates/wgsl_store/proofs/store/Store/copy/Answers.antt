use Rattle.std.proofs.Common.{◌≡◌, List, length, map, subst, sym, ap, ◌∙◌, arith}
use Rattle.std.proofs.Math.Seq.{take-append_seam}
use Rattle.std.specs.List.{All}
use Rattle.std.specs.Prelude.{IsOkAnd}
use Rattle.std.specs.Vec.{with_items}
use Rattle.wgsl_rules.specs.Values.{Val}
use Rattle.wgsl_values.specs.View.{reference_of}
use Rattle.wgsl_store.specs.Cells.{IsCell, cell_value}
use Rattle.wgsl_store.specs.Copies.{AreCopied, are_in_bytes}
use Rattle.wgsl_store.specs.Memory.{held}
use Rattle.wgsl_store.specs.MemoryLaws.{StaysKept}
use Rattle.wgsl_store.specs.declared.cell.Cell.{Cell}
use Rattle.wgsl_store.proofs.CopiedCells.{copied-good}
use Rattle.wgsl_store.proofs.store.Store.copy.Goals as goal

-- the cells are those that the copy leaves
left : (c : goal.After-self-1) → (with_items c.self.inside.cells c.copy_among.new.cells).items ≡ c.copy_among.new.cells
left c =
    let long : c.self.inside.cells.len ≡ length c.copy_among.new.cells = omega (arith, c.copy_among.auto.cells, c.as_mut_slice.ensures.len) in
    rw long (take-append_seam c.copy_among.new.cells _)

copied : (c : goal.After-self-1)
    → IsOkAnd (held c.args.self.now (reference_of c.args.from.now))
    (AreCopied c.copy_among.result (are_in_bytes c.args.self.now (reference_of c.args.from.now) (reference_of c.args.to.now)) c.args.self.now (map cell_value (with_items c.self.inside.cells c.copy_among.new.cells).items) (reference_of c.args.to.now))
copied c =
    let q = reference_of c.args.from.now in
    let r = reference_of c.args.to.now in
    let was : map cell_value c.as_mut_slice.result.now ≡ c.args.self.now = ap (map cell_value) c.as_mut_slice.ensures.value ∙ c.self.view_is in
    let among = subst (λ (cells : List Val). IsOkAnd (held cells q) (AreCopied c.copy_among.result (are_in_bytes cells q r) cells (map cell_value c.copy_among.new.cells) r)) was c.copy_among.ensures.copied in
    subst (λ (cells : List Cell). IsOkAnd (held c.args.self.now q) (AreCopied c.copy_among.result (are_in_bytes c.args.self.now q r) c.args.self.now (map cell_value cells) r)) (sym (left c)) among

good : (c : goal.After-self-1) → StaysKept c.args.self.now (map cell_value (with_items c.self.inside.cells c.copy_among.new.cells).items)
good c =
    copied-good c.copy_among.result (are_in_bytes c.args.self.now (reference_of c.args.from.now) (reference_of c.args.to.now)) c.args.self.now (map cell_value (with_items c.self.inside.cells c.copy_among.new.cells).items)
    (reference_of c.args.from.now) (reference_of c.args.to.now) (rw c.self.view_is at c.self.invariant.sound) (copied c)

pub invariant_of-self : goal.invariant_of-self
invariant_of-self c = record { sound = (good c).sound; forms = subst (λ (cells : List Cell). All IsCell cells) (sym (left c)) c.copy_among.ensures.forms }

pub returns-clause-copied : goal.returns-clause-copied
returns-clause-copied c = copied c

pub returns-clause-sound : goal.returns-clause-sound
returns-clause-sound c = (good c).sound

pub returns-clause-kept : goal.returns-clause-kept
returns-clause-kept c = (good c).keeps
