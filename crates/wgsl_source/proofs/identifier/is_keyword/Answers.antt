use Rattle.wgsl_source.specs.Identifiers.{keywords}
use Rattle.wgsl_source.proofs.identifier.is_keyword.Goals as goal

pub returns : goal.returns
unfolding keywords
returns c = c.is_in.ensures
