use Rattle.std.proofs.Common.{rules}
use Rattle.wgsl_value_ops.proofs.Lifting.{meets-one, gives-vector, vector-one-kind}
use Rattle.wgsl_value_ops.proofs.Types.{one-typed}
use Rattle.wgsl_value_ops.specs.Literals.{of_literal}
use Rattle.wgsl_value_ops.proofs.lifted.of_each.Goals as goal

pub compwise_unary-requires-clause-one_kind : goal.compwise_unary-requires-clause-one_kind
compwise_unary-requires-clause-one_kind c =
    vector-one-kind (λ t. t) (of_literal c.args.operator) (one-typed c.args.operator) _ (meets-one _ _ (of_literal c.args.operator) (λ a r said. search rules)) c.args.vector.now c.requires

pub returns-clause-value : goal.returns-clause-value
returns-clause-value c = gives-vector _ (of_literal c.args.operator) (meets-one _ _ (of_literal c.args.operator) (λ a r said. search rules)) c.args.vector.now c.compwise_unary.result c.compwise_unary.ensures.answers
