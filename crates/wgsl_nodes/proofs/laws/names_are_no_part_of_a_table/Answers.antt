use Rattle.wgsl_nodes.proofs.Unnamed.{renamed-table}
use Rattle.wgsl_nodes.proofs.laws.names_are_no_part_of_a_table.Goals as goal

pub returns : goal.returns
returns c = renamed-table
