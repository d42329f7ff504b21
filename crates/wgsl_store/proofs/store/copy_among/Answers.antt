use Rattle.std.proofs.Common.{◌≡◌, Bool, slice_index_or, slice_set, subst, ap, arith}
use Rattle.std.proofs.lemmas.List.Elements.{All-set}
use Rattle.std.specs.Prelude.{IsOkAnd}
use Rattle.wgsl_rules.specs.Paths.{viewed}
use Rattle.wgsl_values.specs.View.{reference_of}
use Rattle.wgsl_store.specs.Cells.{IsCell, cell_value}
use Rattle.wgsl_layout.specs.Copies.{IsCopied}
use Rattle.wgsl_store.specs.Copies.{is_bytes}
use Rattle.wgsl_store.proofs.CopiedCells.{and-same, cell-there, copied-cells}
use Rattle.wgsl_store.proofs.store.copy_among.Goals as goal

pub returns-clause-copied : goal.returns-clause-copied
returns-clause-copied c =
    let cs = c.args.cells.now in
    let q = reference_of c.args.from.now in
    let r = reference_of c.args.to.now in
    let way = c.copy_within.result in
    let new = c.copy_within.new.self in
    let x = slice_index_or cs c.cell-target.result c.index-cells-target.result in
    let one : c.cell-target.result ≡ q.cell = omega (arith, c.cell-source.ensures, c.if-source-target.false, c.if-target-source.false) in
    let put = rw (c.view.ensures, c.view-2.ensures) at c.copy_within.ensures.copied in
    let both = subst (λ (b : Bool). IsOkAnd (viewed q.view (cell_value x)) (IsCopied way b (cell_value x) (cell_value new) r.view)) (and-same (is_bytes (cell_value x))) put in
    copied-cells cell_value way cs (slice_set cs c.cell-target.result new) q r x x new
    (cell-there cell_value cs q c.cell-target.result c.index-cells-target.result c.requires.from one)
    (cell-there cell_value cs r c.cell-target.result c.index-cells-target.result c.requires.to c.cell-target.ensures)
    (ap (λ (i : _). slice_set cs i new) c.cell-target.ensures) both

pub returns-clause-forms : goal.returns-clause-forms
returns-clause-forms c = All-set IsCell c.args.cells.now c.cell-target.result c.copy_within.new.self c.copy_within.ensures.cell c.requires.forms
