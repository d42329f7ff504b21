use Rattle.wgsl_nodes.proofs.Renaming.{renamed-is}
use Rattle.wgsl_nodes.proofs.laws.names_are_no_part_of_a_layout.Goals as goal

pub returns : goal.returns
returns c = renamed-is
