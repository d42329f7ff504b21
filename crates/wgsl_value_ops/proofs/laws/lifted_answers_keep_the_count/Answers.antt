use Rattle.wgsl_value_ops.proofs.OperatorLaws.{lifted-count, lifted2-count}
use Rattle.wgsl_value_ops.proofs.laws.lifted_answers_keep_the_count.Goals as goal

pub returns : goal.returns
returns c = record { one = lifted-count; two = lifted2-count }
