use Rattle.wgsl_rules.specs.Paths.{viewed}
use Rattle.wgsl_rules.specs.Values.{atomic_of}
use Rattle.wgsl_scalar.specs.Literals.{literal_of}
use Rattle.wgsl_values.specs.View.{value_of, reference_of}
use Rattle.wgsl_layout.proofs.AtomicParts.{fits-led}
use Rattle.wgsl_store.proofs.StoreCells.{replaced-form}
use Rattle.wgsl_store.proofs.cell.Cell.put_atomic_number.Goals as goal

pub returns-in-Tree-clause-cell : goal.returns-in-Tree-clause-cell
returns-in-Tree-clause-cell c =
    let steps = (reference_of c.args.reference.now).view in
    let w = literal_of c.args.number in
    let v = value_of c.in-Tree.whole in
    replaced-form steps (atomic_of w) v (value_of c.put_number_in_tree.new.whole) (rw c.in-Tree.is at c.requires.cell)
    (fits-led w (viewed steps v) (rw c.in-Tree.is at c.requires.there)) (rw c.view-in-Tree.ensures at c.put_number_in_tree.ensures)
