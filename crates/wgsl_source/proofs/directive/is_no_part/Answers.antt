use Rattle.wgsl_source.specs.Pieces.{no_parts}
use Rattle.wgsl_source.proofs.directive.is_no_part.Goals as goal

pub returns : goal.returns
unfolding no_parts
returns c = c.is_one_of.ensures
