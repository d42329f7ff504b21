use Rattle.wgsl_eval.proofs.FaultyLaws.{declarations-explained}
use Rattle.wgsl_eval.proofs.laws.faulty_declarations_are_explained.Goals as goal

pub returns : goal.returns
returns c = declarations-explained
