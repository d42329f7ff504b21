use Rattle.std.proofs.Common.{refl}
use Rattle.wgsl_store.proofs.cell.Cell.write_bytes.Goals as goal

pub returns-in-Flat-clause-put : goal.returns-in-Flat-clause-put
returns-in-Flat-clause-put c = rw (c.in-Flat.is, c.put_bytes.ensures.laid) c.put_bytes.ensures.put

pub returns-in-Tree-clause-put : goal.returns-in-Tree-clause-put
returns-in-Tree-clause-put c = rw c.in-Tree.is (rw c.in-Tree.is at c.requires.cell, refl)
