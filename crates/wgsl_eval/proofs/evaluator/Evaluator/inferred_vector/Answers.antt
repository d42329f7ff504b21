use Rattle.wgsl_eval.proofs.ConvertedLists.{components-well_formed}
use Rattle.wgsl_eval.proofs.evaluator.Evaluator.inferred_vector.Goals as goal

pub convert_all-common-requires : goal.convert_all-common-requires
convert_all-common-requires c =
    rw c.as_slice.ensures.value
    (components-well_formed c.args.n c.args.values.now c.in-Of.components.items c.requires (rw c.in-Of.is at c.in_ok-components.ensures))
