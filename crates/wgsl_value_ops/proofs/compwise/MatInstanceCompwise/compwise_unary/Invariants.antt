use Rattle.std.proofs.Common.{◌≡◌, ◌≤◌, vec_len, vec_capacity}
use Rattle.wgsl_rules.specs.Paths.{parts}
use Rattle.wgsl_rules.specs.Values.{count}
use Rattle.wgsl_values.specs.Iterators.{all_components}
use Rattle.wgsl_values.specs.Matrices.{row_count}
use Rattle.wgsl_values.specs.View.{mat_view}
use Rattle.wgsl_value_ops.proofs.ColumnAnswers.{AreColumnsSoFar, columns_from}
use Rattle.wgsl_value_ops.specs.Closures.{AnswersAt, IsCallableAt, components_of}
use Rattle.wgsl_value_ops.proofs.compwise.MatInstanceCompwise.compwise_unary.Given as goal

abbrev pub invariant-loop-i : goal.invariant-loop-i
invariant-loop-i g l = record {
  counted : vec_len l.columns ≡ l.i;
  room : count (parts (mat_view l.self)) ≤ vec_capacity l.columns;
  callable : IsCallableAt g.F.Fn l.f (all_components (columns_from l.i l.self));
  so_far : AreColumnsSoFar (AnswersAt g.F.Fn l.f) (components_of (mat_view l.self)) (all_components (columns_from l.i l.self)) (row_count (parts (mat_view l.self))) l.columns.items;
}
