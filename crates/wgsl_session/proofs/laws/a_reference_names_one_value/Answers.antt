use Rattle.wgsl_session.proofs.Found.{one-value}
use Rattle.wgsl_session.proofs.laws.a_reference_names_one_value.Goals as goal

pub returns : goal.returns
returns c = λ cells r v w a b. one-value cells r v w a b
