use Rattle.std.proofs.Common.{rules}
use Rattle.wgsl_value_ops.proofs.Lifting.{meets-pairs}
use Rattle.wgsl_value_builtins.proofs.Functions.{gives-vectors, vectors-one-kind}
use Rattle.wgsl_value_builtins.specs.Functions.{binary_value}
use Rattle.wgsl_value_builtins.proofs.lifts.on_vectors.Goals as goal

pub compwise_binary-requires-clause-one_kind : goal.compwise_binary-requires-clause-one_kind
compwise_binary-requires-clause-one_kind c =
    vectors-one-kind c.args.function _ (meets-pairs _ _ (binary_value c.args.function) (λ a b r said. search rules)) c.args.left.now c.args.right.now c.requires.left c.requires.right c.requires.one_type

pub returns-clause-value : goal.returns-clause-value
returns-clause-value c =
    gives-vectors c.args.function _ (meets-pairs _ _ (binary_value c.args.function) (λ a b r said. search rules)) c.args.left.now c.args.right.now c.compwise_binary.result c.requires.left c.requires.right c.requires.one_type c.compwise_binary.ensures.answers
