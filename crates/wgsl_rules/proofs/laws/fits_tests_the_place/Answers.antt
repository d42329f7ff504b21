use Rattle.wgsl_rules.proofs.lemmas.Paths.{fits-Decides}
use Rattle.wgsl_rules.proofs.laws.fits_tests_the_place.Goals as goal

pub returns : goal.returns
returns c = λ w v. fits-Decides w v
