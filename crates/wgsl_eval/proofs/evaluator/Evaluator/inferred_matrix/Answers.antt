use Rattle.std.proofs.Common.{◌*◌}
use Rattle.wgsl_eval.proofs.ConvertedLists.{scalars-well_formed}
use Rattle.wgsl_eval.proofs.evaluator.Evaluator.inferred_matrix.Goals as goal

pub convert_all-common-requires : goal.convert_all-common-requires
convert_all-common-requires c =
    rw c.as_slice.ensures.value
    (scalars-well_formed (c.args.columns * c.args.rows) c.args.values.now c.in-Of.scalars.items c.requires (rw c.in-Of.is at c.in_ok-scalars.ensures))
