use Rattle.std.proofs.Common.{◌≡◌, Some, slice_get, ap, ◌∙◌}
use Rattle.wgsl_values.specs.View.{steps_of, reference_of}
use Rattle.wgsl_store.specs.Cells.{part_value}
use Rattle.wgsl_store.proofs.StoreCells.{found-content, found-held}
use Rattle.wgsl_store.proofs.store.Store.find.Goals as goal

pub returns-clause-content : goal.returns-clause-content
returns-clause-content c =
    let there : Some (part_value c.in_ok-cell.cell) ≡ slice_get c.args.self.now (reference_of c.args.reference.now).cell = c.in_ok-cell.ensures.value ∙ ap (slice_get c.args.self.now) c.cell.ensures in
    found-content part_value c.args.self.now (reference_of c.args.reference.now) c.viewed.result c.in_ok-cell.ensures.sound
    (found-held part_value c.args.self.now (reference_of c.args.reference.now) (steps_of c.view.result.now) (part_value c.in_ok-cell.cell) c.viewed.result there c.view.ensures c.viewed.ensures.value)
