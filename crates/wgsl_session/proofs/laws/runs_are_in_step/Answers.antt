use Rattle.wgsl_session.proofs.Good.{runs-in-step}
use Rattle.wgsl_session.proofs.laws.runs_are_in_step.Goals as goal

pub returns : goal.returns
returns c = λ before after calls answers good sound e. runs-in-step before after calls answers good sound e
