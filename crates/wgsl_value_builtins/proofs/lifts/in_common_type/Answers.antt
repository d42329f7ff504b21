use Rattle.wgsl_values.specs.View.{value_of}
use Rattle.wgsl_value_builtins.proofs.OwnTypes.{in-own}
use Rattle.wgsl_value_builtins.proofs.lifts.in_common_type.Goals as goal

pub returns-then-are_of_one_type-clause-value : goal.returns-then-are_of_one_type-clause-value
returns-then-are_of_one_type-clause-value c = rw (in-own (value_of c.args.left.now) (value_of c.args.right.now) c.requires.left c.requires.right (c.are_of_one_type.ensures c.if-are_of_one_type.true)) c.on_both.ensures.value
