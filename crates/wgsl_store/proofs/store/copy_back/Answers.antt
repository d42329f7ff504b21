use Rattle.std.proofs.Common.{◌<◌, ◌++◌, List, length, map, slice_index_or, slice_set, subst, sym, ap, ◌∙◌, arith}
use Rattle.std.proofs.lemmas.List.Elements.{All-set}
use Rattle.std.specs.List.{All}
use Rattle.wgsl_values.specs.View.{reference_of}
use Rattle.wgsl_store.specs.Cells.{IsCell, cell_value}
use Rattle.wgsl_store.specs.declared.cell.Cell.{Cell}
use Rattle.wgsl_store.proofs.CopiedCells.{back-there, copied-cells, front-set, front-there, leads-on}
use Rattle.wgsl_store.proofs.store.copy_back.Goals as goal

pub copy_from-requires-clause-from : goal.copy_from-requires-clause-from
copy_from-requires-clause-from c =
    let parts = c.split_at_mut-front in
    let x = slice_index_or parts.result.1.now 0 c.index-back-0.result in
    rw c.view.ensures (leads-on (map cell_value c.args.cells.now) (reference_of c.args.from.now) (cell_value x) c.requires.from
    (back-there cell_value c.args.cells.now parts.result.0.now parts.result.1.now (reference_of c.args.from.now) c.cell.result c.index-back-0.result c.requires.from c.cell.ensures parts.ensures.value parts.ensures.front_len))

pub copy_from-requires-clause-to : goal.copy_from-requires-clause-to
copy_from-requires-clause-to c =
    let parts = c.split_at_mut-front in
    let y = slice_index_or parts.result.0.now c.cell-2.result c.index-front-cell.result in
    let before : c.cell-2.result < length parts.result.0.now = omega (arith, c.cell-2.ensures, c.cell.ensures, c.requires.back, parts.ensures.front_len) in
    rw c.view-2.ensures (leads-on (map cell_value c.args.cells.now) (reference_of c.args.to.now) (cell_value y) c.requires.to
    (front-there cell_value c.args.cells.now parts.result.0.now parts.result.1.now (reference_of c.args.to.now) c.cell-2.result c.index-front-cell.result c.requires.to c.cell-2.ensures parts.ensures.value before))

pub returns-clause-copied : goal.returns-clause-copied
returns-clause-copied c =
    let cs = c.args.cells.now in
    let q = reference_of c.args.from.now in
    let r = reference_of c.args.to.now in
    let parts = c.split_at_mut-front in
    let front = parts.result.0.now in
    let back = parts.result.1.now in
    let x = slice_index_or back 0 c.index-back-0.result in
    let y = slice_index_or front c.cell-2.result c.index-front-cell.result in
    let before : c.cell-2.result < length front = omega (arith, c.cell-2.ensures, c.cell.ensures, c.requires.back, parts.ensures.front_len) in
    copied-cells cell_value c.copy_from.result cs (slice_set front c.cell-2.result c.copy_from.new.self ++ back) q r x y c.copy_from.new.self
    (back-there cell_value cs front back q c.cell.result c.index-back-0.result c.requires.from c.cell.ensures parts.ensures.value parts.ensures.front_len)
    (front-there cell_value cs front back r c.cell-2.result c.index-front-cell.result c.requires.to c.cell-2.ensures parts.ensures.value before)
    (front-set cs front back c.cell-2.result c.copy_from.new.self parts.ensures.value before ∙ ap (λ (i : _). slice_set cs i c.copy_from.new.self) c.cell-2.ensures)
    (rw (c.view.ensures, c.view-2.ensures) at c.copy_from.ensures.copied)

pub returns-clause-forms : goal.returns-clause-forms
returns-clause-forms c =
    let cs = c.args.cells.now in
    let parts = c.split_at_mut-front in
    let front = parts.result.0.now in
    let before : c.cell-2.result < length front = omega (arith, c.cell-2.ensures, c.cell.ensures, c.requires.back, parts.ensures.front_len) in
    subst (λ (ys : List Cell). All IsCell ys) (sym (front-set cs front parts.result.1.now c.cell-2.result c.copy_from.new.self parts.ensures.value before))
    (All-set IsCell cs c.cell-2.result c.copy_from.new.self c.copy_from.ensures.cell c.requires.forms)
