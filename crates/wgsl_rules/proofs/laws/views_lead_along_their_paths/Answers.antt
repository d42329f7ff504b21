use Rattle.wgsl_rules.proofs.lemmas.Paths.{view-leads}
use Rattle.wgsl_rules.proofs.laws.views_lead_along_their_paths.Goals as goal

pub returns : goal.returns
returns c = λ steps v. view-leads steps v
