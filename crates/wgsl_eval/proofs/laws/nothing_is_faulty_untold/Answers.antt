use Rattle.wgsl_eval.proofs.FaultyLaws.{nothing-untold}
use Rattle.wgsl_eval.proofs.laws.nothing_is_faulty_untold.Goals as goal

pub returns : goal.returns
returns c = nothing-untold
