use Rattle.wgsl_value_ops.proofs.OwnTypes.{of_converted-own}
use Rattle.wgsl_value_ops.proofs.lifted.of_converted.Goals as goal

pub returns-then-are_of_one_type-clause-value : goal.returns-then-are_of_one_type-clause-value
returns-then-are_of_one_type-clause-value c = rw (of_converted-own c.args.operator c.args.stage c.args.left.now c.args.right.now c.requires.left c.requires.right (c.are_of_one_type.ensures c.if-are_of_one_type.true)) c.of_components.ensures.value
