use Rattle.wgsl_places.proofs.Values.{stores-are-writes}
use Rattle.wgsl_places.proofs.laws.stores_are_writes.Goals as goal

pub returns : goal.returns
returns c = stores-are-writes
