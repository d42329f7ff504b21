use Rattle.wgsl_value_ops.proofs.OwnTypes.{of_scalar_vector-own}
use Rattle.wgsl_value_ops.proofs.lifted.of_scalar_vector.Goals as goal

pub returns-then-has_components_of-clause-value : goal.returns-then-has_components_of-clause-value
returns-then-has_components_of-clause-value c = rw (of_scalar_vector-own c.args.operator c.args.stage c.args.vector.now c.args.scalar.now c.requires (c.has_components_of.ensures c.if-has_components_of.true)) c.of_scalar_and_each.ensures.value
