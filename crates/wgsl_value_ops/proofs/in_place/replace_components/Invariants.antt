use Rattle.std.proofs.Common.{◌≡◌, map, take}
use Rattle.wgsl_value_ops.proofs.InPlace.{written}
use Rattle.wgsl_rules.specs.Paths.{parts}
use Rattle.wgsl_rules.specs.Values.{AreStorable, vector}
use Rattle.wgsl_scalar.specs.Literals.{literal_of}
use Rattle.wgsl_values.specs.Iterators.{listed}
use Rattle.wgsl_values.specs.View.{vals_of, vec_view}
use Rattle.wgsl_value_ops.proofs.in_place.replace_components.Given as goal

abbrev pub invariant-loop-i : goal.invariant-loop-i
invariant-loop-i l = record {
  so_far : vec_view l.target ≡ vector (vals_of (written l.literals l.i (listed (parts (vec_view l.fn.target)))));
  storable : AreStorable (vals_of (map literal_of (take l.i l.literals)));
}
