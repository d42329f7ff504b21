use Rattle.std.proofs.Common.{◌≡◌, ◌++◌, ◌-◌, map}
use Rattle.wgsl_scalar.specs.Literals.{literal_of}
use Rattle.wgsl_values.specs.View.{value_of}
use Rattle.wgsl_eval.specs.Constructors.{columns_of}
use Rattle.wgsl_eval.proofs.literals.columns_of.Given as goal

abbrev pub invariant-loop-done : goal.invariant-loop-done
invariant-loop-done l =
    map value_of l.made.items ++ columns_of (l.columns - l.done) l.rows (map literal_of l.rest) ≡ columns_of l.columns l.rows (map literal_of l.fn.literals)
