use Rattle.wgsl_nodes.proofs.LengthsOf.{length-is}
use Rattle.wgsl_nodes.proofs.lengths.size_with.Goals as goal

pub returns-clause-on_table : goal.returns-clause-on_table
returns-clause-on_table c = λ t is. rw (c.length_at.ensures, is.there) (length-is c.args.count is.node t is.describes.says)
