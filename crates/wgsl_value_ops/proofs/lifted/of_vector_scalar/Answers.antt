use Rattle.wgsl_value_ops.proofs.OwnTypes.{of_vector_scalar-own}
use Rattle.wgsl_value_ops.proofs.lifted.of_vector_scalar.Goals as goal

pub returns-then-has_components_of-clause-value : goal.returns-then-has_components_of-clause-value
returns-then-has_components_of-clause-value c = rw (of_vector_scalar-own c.args.operator c.args.stage c.args.vector.now c.args.scalar.now c.requires (c.has_components_of.ensures c.if-has_components_of.true)) c.of_each_and_scalar.ensures.value
