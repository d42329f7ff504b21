use Rattle.wgsl_layout.proofs.lemmas.ViewPaths.{view-range-is}
use Rattle.wgsl_layout.proofs.laws.views_lead_to_ranges.Goals as goal

pub returns : goal.returns
returns c = λ steps v s h. view-range-is steps v s h
