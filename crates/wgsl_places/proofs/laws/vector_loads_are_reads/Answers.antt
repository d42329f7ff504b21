use Rattle.wgsl_places.proofs.VectorValues.{vector-loads-are-reads}
use Rattle.wgsl_places.proofs.laws.vector_loads_are_reads.Goals as goal

pub returns : goal.returns
returns c = vector-loads-are-reads
