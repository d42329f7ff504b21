use Rattle.wgsl_session.proofs.InStep.{in-step}
use Rattle.wgsl_session.proofs.laws.values_and_bytes_are_in_step.Goals as goal

pub returns : goal.returns
returns c = λ before after call answer good sound e. in-step before after call answer good sound e
