use Rattle.wgsl_value_builtins.proofs.Answers.{answers}
use Rattle.wgsl_value_builtins.proofs.laws.answers_may_be_stored.Goals as goal

pub returns : goal.returns
returns c = answers
