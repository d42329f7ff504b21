use Rattle.std.proofs.Common.{option_map}
use Rattle.wgsl_values.specs.View.{value_of, reference_of}
use Rattle.wgsl_store.proofs.StoreCells.{exchanged-form}
use Rattle.wgsl_store.proofs.cell.Cell.put.Goals as goal

pub returns-in-Some-clause-cell : goal.returns-in-Some-clause-cell
returns-in-Some-clause-cell c =
    exchanged-form (reference_of c.args.reference.now).view (value_of c.args.value.now) (value_of c.in-Tree.whole) (value_of c.replace_tree.new.whole) (option_map value_of c.replace_tree.result) (rw c.in-Tree.is at c.requires.cell)
    c.replace_tree.ensures.exchanged
