use Rattle.wgsl_scalar.proofs.Quotients.{divides, divides_alone}
use Rattle.wgsl_scalar.proofs.laws.quotients_and_remainders_divide.Goals as goal

pub returns : goal.returns
returns c = record { divides = divides; alone = divides_alone }
