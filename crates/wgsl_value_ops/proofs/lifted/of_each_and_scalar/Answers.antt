use Rattle.std.proofs.Common.{rules}
use Rattle.wgsl_value_ops.proofs.Lifting.{meets-one, gives-vector, vector-one-kind}
use Rattle.wgsl_value_ops.proofs.Types.{answer-typed}
use Rattle.wgsl_value_ops.specs.Laws.{answer_type}
use Rattle.wgsl_value_ops.specs.Literals.{of_literals}
use Rattle.wgsl_rules.specs.Values.{type_of}
use Rattle.wgsl_scalar.specs.Literals.{literal_of}
use Rattle.wgsl_value_ops.proofs.lifted.of_each_and_scalar.Goals as goal

pub compwise_unary-requires-clause-one_kind : goal.compwise_unary-requires-clause-one_kind
compwise_unary-requires-clause-one_kind c =
    vector-one-kind (λ t. answer_type c.args.operator t (type_of (literal_of c.args.scalar.now))) (λ v. of_literals c.args.operator c.args.stage v (literal_of c.args.scalar.now)) (λ v x h. answer-typed c.args.operator c.args.stage v (literal_of c.args.scalar.now) x h) _ (meets-one _ _ (λ v. of_literals c.args.operator c.args.stage v (literal_of c.args.scalar.now)) (λ a r said. search rules)) c.args.vector.now c.requires

pub returns-clause-value : goal.returns-clause-value
returns-clause-value c = gives-vector _ (λ v. of_literals c.args.operator c.args.stage v (literal_of c.args.scalar.now)) (meets-one _ _ (λ v. of_literals c.args.operator c.args.stage v (literal_of c.args.scalar.now)) (λ a r said. search rules)) c.args.vector.now c.compwise_unary.result c.compwise_unary.ensures.answers
