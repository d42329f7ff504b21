use Rattle.wgsl_value_builtins.proofs.NumericAnswers.{transposed-storable}
use Rattle.wgsl_value_builtins.proofs.numeric.transpose.Goals as goal

pub returns-in_ok-transpose-in-Mat-clause-storable : goal.returns-in_ok-transpose-in-Mat-clause-storable
returns-in_ok-transpose-in-Mat-clause-storable c =
    transposed-storable c.args.e.now c.in-Mat.matrix c.in_ok-transpose-in-Mat.field-0 c.in-Mat.is c.requires c.in_ok-transpose-in-Mat.ensures
