use Rattle.std.proofs.Common.{ℕ, length, map, subst, refl, sym, ◌∙◌, arith}
use Rattle.wgsl_source.specs.Declarations.{IsItem}
use Rattle.wgsl_source.specs.Faults.{IsTold}
use Rattle.wgsl_source.specs.declared.cursor.Cursor.{Cursor}
use Rattle.wgsl_source.specs.declared.declaration.Declaration.{Declaration}
use Rattle.wgsl_source.specs.declared.piece.PieceKind.TheVariants.{Fault}
use Rattle.wgsl_source.proofs.IdentifierLemmas.{fault_at-token}
use Rattle.wgsl_source.proofs.PieceLemmas.{added-other, read-later}
use Rattle.wgsl_source.proofs.declaration.Reader.read_piece.Goals as goal

pub add-requires-clause-item : goal.add-requires-clause-item
add-requires-clause-item c =
    let P : Cursor → Type 0 = λ before. IsItem before c.item.new.self.cursor c.in-Ok.item in
    subst P c.moved_to-self.ensures c.in-Ok.ensures

pub returns-in_ok-add-in-Err-At-clause-read : goal.returns-in_ok-add-in-Err-At-clause-read
returns-in_ok-add-in-Err-At-clause-read c =
    let old = c.args.self.now in
    let new = c.add_piece.new.self in
    let faults = c.add-in-Err-At.new.self.faults.items in
    let names = map (λ (d : Declaration). d.name) old.declarations.items in
    let token : ℕ = c.clamp-token.result in
    let same = fault_at-token c.args.cursor token c.in-Err-At.reason ∙ sym c.fault_at.ensures in
    let told = subst (IsTold faults) (sym same) c.in_ok-add-in-Err-At.ensures.told in
    added-other c.add_piece.result c.args.cursor old.pieces.items new.pieces.items old.declarations.items new.declarations.items old.asserts.items new.asserts.items faults c.args.start c.end_of-end.result (Fault token c.in-Err-At.reason) c.add_piece.ensures (omega arith) refl refl (omega arith, omega arith, told)
    (read-later c.args.cursor old.pieces.items names (length old.asserts.items) c.args.faults.now.faults.items faults c.args.start c.add-in-Err-At.ensures.kept c.requires.read)
