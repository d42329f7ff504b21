use Rattle.std.proofs.Common.{◌≡◌, ◌≤◌, length, map, vec_len, vec_capacity}
use Rattle.std.specs.List.{zip}
use Rattle.wgsl_value_ops.proofs.Answering.{IsSoFar}
use Rattle.wgsl_value_ops.specs.Closures.{AnswersAtPair}
use Rattle.wgsl_rules.specs.Values.{AreStorable}
use Rattle.wgsl_values.specs.View.{value_of, vals_view}
use Rattle.wgsl_value_ops.proofs.compwise.answers_at_pairs.Given as goal

abbrev pub invariant-loop-i : goal.invariant-loop-i
invariant-loop-i g l = record {
  count : vec_len l.out ≡ l.i;
  room : length l.left ≤ vec_capacity l.out;
  storable : AreStorable (vals_view l.out.items);
  so_far : IsSoFar (AnswersAtPair g.F.Fn l.f) (zip (map value_of l.left) (map value_of l.right)) l.i (map value_of l.out.items);
}
