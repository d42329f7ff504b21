use Rattle.wgsl_places.proofs.Values.{loads-are-reads}
use Rattle.wgsl_places.proofs.laws.loads_are_reads.Goals as goal

pub returns : goal.returns
returns c = loads-are-reads
