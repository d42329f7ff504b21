use Rattle.wgsl_eval.proofs.Scalars.{vector-added}
use Rattle.wgsl_eval.proofs.literals.add_scalars.Goals as goal

pub returns-in-Vec : goal.returns-in-Vec
returns-in-Vec c = vector-added _ _ _ c.args.value.now c.in-Vec.vector _ c.in-Vec.is c.as_slice.ensures c.add_components.ensures
