use Rattle.std.proofs.Common.{◌≡◌, ◌≤◌, vec_len, vec_capacity}
use Rattle.wgsl_rules.specs.Paths.{parts}
use Rattle.wgsl_rules.specs.Values.{count}
use Rattle.wgsl_values.specs.Matrices.{row_count}
use Rattle.wgsl_values.specs.View.{mat_view}
use Rattle.wgsl_value_ops.proofs.ColumnAnswers.{AreColumnsSoFar, pairs_from}
use Rattle.wgsl_value_ops.specs.Closures.{AnswersAtPair, IsCallableAtPairs, pairs_of}
use Rattle.wgsl_value_ops.proofs.compwise.MatInstanceCompwise.compwise_binary.Given as goal

abbrev pub invariant-loop-i : goal.invariant-loop-i
invariant-loop-i g l = record {
  counted : vec_len l.columns ≡ l.i;
  room : count (parts (mat_view l.self)) ≤ vec_capacity l.columns;
  callable : IsCallableAtPairs g.F.Fn l.f (pairs_from l.i l.self l.rhs);
  so_far : AreColumnsSoFar (AnswersAtPair g.F.Fn l.f) (pairs_of (mat_view l.self) (mat_view l.rhs)) (pairs_from l.i l.self l.rhs) (row_count (parts (mat_view l.self))) l.columns.items;
}
