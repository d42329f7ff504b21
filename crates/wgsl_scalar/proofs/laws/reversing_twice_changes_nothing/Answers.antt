use Rattle.wgsl_scalar.proofs.lemmas.Reversed.{reversing_twice}
use Rattle.wgsl_scalar.proofs.laws.reversing_twice_changes_nothing.Goals as goal

pub returns : goal.returns
returns c = reversing_twice
