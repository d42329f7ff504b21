use Rattle.std.specs.Prelude.{option_map}
use Rattle.wgsl_values.specs.View.{reference_of}
use Rattle.wgsl_layout.specs.NumbersIn.{AreFrom}
use Rattle.wgsl_store.specs.Cells.{cell_value}
use Rattle.wgsl_store.proofs.NumberCells.{lent-of}
use Rattle.wgsl_store.proofs.store.Store.bytes_from.Goals as goal

pub returns-clause-bytes : goal.returns-clause-bytes
returns-clause-bytes c =
    lent-of (λ flat x. AreFrom flat x (option_map (λ b. b.now) c.bytes_from.result)) cell_value c.self.inside.cells.items c.args.self.now (reference_of c.args.reference.now) c.cell.result c.index-cell.result.now c.self.view_is c.requires c.cell.ensures c.index-cell.ensures (rw c.view.ensures at c.bytes_from.ensures)
