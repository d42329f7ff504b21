use Rattle.std.proofs.Common.{rules}
use Rattle.wgsl_value_ops.proofs.Lifting.{gives-vector, meets-one, vector-one-kind}
use Rattle.wgsl_value_builtins.proofs.Functions.{unary-typed}
use Rattle.wgsl_value_builtins.specs.Functions.{unary_value}
use Rattle.wgsl_value_builtins.proofs.lifts.on_vector.Goals as goal

pub compwise_unary-requires-clause-one_kind : goal.compwise_unary-requires-clause-one_kind
compwise_unary-requires-clause-one_kind c =
    vector-one-kind (λ t. t) (unary_value c.args.function) (unary-typed c.args.function) _ (meets-one _ _ (unary_value c.args.function) (λ a r said. search rules)) c.args.vector.now c.requires

pub returns-clause-value : goal.returns-clause-value
returns-clause-value c = gives-vector _ (unary_value c.args.function) (meets-one _ _ (unary_value c.args.function) (λ a r said. search rules)) c.args.vector.now c.compwise_unary.result c.compwise_unary.ensures.answers
