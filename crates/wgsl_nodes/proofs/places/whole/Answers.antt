use Rattle.wgsl_nodes.proofs.Parts.{whole-is}
use Rattle.wgsl_nodes.proofs.places.whole.Goals as goal

pub returns-clause-on_table : goal.returns-clause-on_table
returns-clause-on_table c = λ t is. rw c.place_at.ensures (whole-is c.args.nodes.now t is)
