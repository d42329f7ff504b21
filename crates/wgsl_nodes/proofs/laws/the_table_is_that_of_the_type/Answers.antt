use Rattle.wgsl_nodes.proofs.Tabled.{table-is}
use Rattle.wgsl_nodes.proofs.laws.the_table_is_that_of_the_type.Goals as goal

pub returns : goal.returns
returns c = table-is
