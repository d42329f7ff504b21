use Rattle.std.proofs.Common.{rules}
use Rattle.wgsl_value_ops.proofs.Lifting.{meets-pairs, gives-components, pairs-one-kind}
use Rattle.wgsl_value_ops.specs.Literals.{of_literals}
use Rattle.wgsl_value_ops.proofs.lifted.of_components.Goals as goal

pub compwise_binary-requires-clause-one_kind : goal.compwise_binary-requires-clause-one_kind
compwise_binary-requires-clause-one_kind c =
    pairs-one-kind c.args.operator c.args.stage _ (meets-pairs _ _ (of_literals c.args.operator c.args.stage) (λ a b r said. search rules)) c.args.left.now c.args.right.now c.requires.left c.requires.right

pub returns-clause-value : goal.returns-clause-value
returns-clause-value c =
    gives-components c.args.operator c.args.stage _ (meets-pairs _ _ (of_literals c.args.operator c.args.stage) (λ a b r said. search rules)) c.args.left.now c.args.right.now c.compwise_binary.result c.requires.left c.requires.right c.compwise_binary.ensures.answers
