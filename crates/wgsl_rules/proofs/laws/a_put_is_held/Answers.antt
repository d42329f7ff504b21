use Rattle.wgsl_rules.proofs.lemmas.Paths.{view-held}
use Rattle.wgsl_rules.proofs.laws.a_put_is_held.Goals as goal

pub returns : goal.returns
returns c = λ steps w v. view-held steps w v
