use Rattle.std.proofs.Common.{◌∙◌, ap}
use Rattle.std.specs.Prelude.{option_and_then}
use Rattle.wgsl_nodes.specs.Lengths.{count_of_node}
use Rattle.wgsl_nodes.proofs.LengthsOf.{count-is}
use Rattle.wgsl_nodes.proofs.lengths.count_in.Goals as goal

pub returns-clause-on_table : goal.returns-clause-on_table
returns-clause-on_table c = λ t host is. c.count_at.ensures ∙ ap (option_and_then (count_of_node c.args.len)) is.there ∙ count-is c.args.len is.node t host is.describes.says
