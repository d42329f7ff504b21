use Rattle.wgsl_eval.proofs.FaultyAssertions.{assertions-explained}
use Rattle.wgsl_eval.proofs.laws.faulty_assertions_are_explained.Goals as goal

pub returns : goal.returns
returns c = assertions-explained
