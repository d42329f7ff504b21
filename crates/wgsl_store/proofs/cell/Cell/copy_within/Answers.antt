use Rattle.wgsl_rules.specs.Paths.{viewed}
use Rattle.wgsl_store.proofs.CopiedCells.{no-bytes}
use Rattle.wgsl_values.specs.View.{steps_of, value_of}
use Rattle.wgsl_store.proofs.cell.Cell.copy_within.Goals as goal

pub returns-in-Flat-clause-copied : goal.returns-in-Flat-clause-copied
returns-in-Flat-clause-copied c = rw (c.in-Flat.is, c.copy_within.ensures.laid) c.copy_within.ensures.copied

pub returns-in-Tree-clause-copied : goal.returns-in-Tree-clause-copied
returns-in-Tree-clause-copied c = rw c.in-Tree.is (no-bytes (viewed (steps_of c.args.from.now) (value_of c.in-Tree.field-0)) _ _ (steps_of c.args.to.now) (rw c.in-Tree.is at c.requires.from) (rw c.in-Tree.is at c.requires.cell))
