use Rattle.wgsl_scalar.specs.Literals.{literal_of}
use Rattle.wgsl_value_ops.proofs.Totals.{IsSum}
use Rattle.wgsl_value_ops.proofs.mixed.total.Given as goal

abbrev pub invariant-loop-i : goal.invariant-loop-i
invariant-loop-i l = IsSum l.components l.i (literal_of l.sum)
