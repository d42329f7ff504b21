use Rattle.wgsl_values.specs.View.{value_of}
use Rattle.wgsl_value_builtins.proofs.OwnTypes.{clamped-own}
use Rattle.wgsl_value_builtins.proofs.numeric.clamp.Goals as goal

pub returns-then-are_of_one_type-2-clause-value : goal.returns-then-are_of_one_type-2-clause-value
returns-then-are_of_one_type-2-clause-value c =
    rw (clamped-own (value_of c.args.e.now) (value_of c.args.low.now) (value_of c.args.high.now) c.requires.value c.requires.low c.requires.high (c.are_of_one_type.ensures c.if-are_of_one_type.true) (c.are_of_one_type-then-are_of_one_type.ensures c.if-are_of_one_type-2.true))
    c.between.ensures.value
