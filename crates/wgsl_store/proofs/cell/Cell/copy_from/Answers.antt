use Rattle.std.proofs.Common.{Bool, ◌&&◌, ap, ◌∙◌}
use Rattle.std.proofs.Math.Bool.{and-false}
use Rattle.wgsl_rules.specs.Paths.{viewed}
use Rattle.wgsl_store.specs.Cells.{cell_value}
use Rattle.wgsl_store.specs.Copies.{is_bytes}
use Rattle.wgsl_store.proofs.CopiedCells.{no-bytes}
use Rattle.wgsl_values.specs.View.{steps_of, value_of}
use Rattle.wgsl_store.proofs.cell.Cell.copy_from.Goals as goal

pub returns-in-Tree-clause-copied : goal.returns-in-Tree-clause-copied
returns-in-Tree-clause-copied c =
    let u = cell_value c.args.other.now in
    let v = value_of c.in-Tree.field-0 in
    rw c.in-Tree.is (no-bytes (viewed (steps_of c.args.from.now) u) (is_bytes u && is_bytes v) v (steps_of c.args.to.now) c.requires.from
    (ap (λ (b : Bool). is_bytes u && b) (rw c.in-Tree.is at c.requires.own) ∙ and-false (is_bytes u)))
