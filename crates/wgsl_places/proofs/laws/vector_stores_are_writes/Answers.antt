use Rattle.wgsl_places.proofs.VectorValues.{vector-stores-are-writes}
use Rattle.wgsl_places.proofs.laws.vector_stores_are_writes.Goals as goal

pub returns : goal.returns
returns c = vector-stores-are-writes
