use Rattle.wgsl_eval.proofs.FaultyLaws.{values-explained}
use Rattle.wgsl_eval.proofs.laws.faulty_values_are_explained.Goals as goal

pub returns : goal.returns
returns c = values-explained
