use Rattle.std.proofs.Common.{◌≡◌, ◌≤◌, length, map, vec_len, vec_capacity}
use Rattle.wgsl_value_ops.proofs.Answering.{IsSoFar}
use Rattle.wgsl_value_ops.specs.Closures.{AnswersAt}
use Rattle.wgsl_rules.specs.Values.{AreStorable}
use Rattle.wgsl_values.specs.View.{value_of, vals_view}
use Rattle.wgsl_value_ops.proofs.compwise.answers.Given as goal

abbrev pub invariant-loop-value : goal.invariant-loop-value
invariant-loop-value g l = record {
  count : vec_len l.out ≡ l.value-index;
  room : length l.values ≤ vec_capacity l.out;
  storable : AreStorable (vals_view l.out.items);
  so_far : IsSoFar (AnswersAt g.F.Fn l.f) (map value_of l.values) l.value-index (map value_of l.out.items);
}
