use Rattle.std.proofs.Common.{◌≡◌, ◌+◌, ◌*◌, drop, length}
use Rattle.wgsl_rules.specs.Paths.{parts}
use Rattle.wgsl_values.specs.View.{value_of, mat_view, vals_view}
use Rattle.wgsl_values.proofs.lemmas.Nodes.{nodes, all_nodes}
use Rattle.wgsl_layout.specs.Plan.{plan_view, places_view}
use Rattle.wgsl_layout.specs.Walk.{put_row, put_members, StandInRow, StandAsMembers}
use Rattle.wgsl_layout.proofs.Writing.{from}
use Rattle.wgsl_layout.proofs.writer.+write.Given as goal

abbrev pub decreases-write_value : goal.decreases-write_value
decreases-write_value l = 3 * nodes (value_of l.value.now)

abbrev pub decreases-write_item : goal.decreases-write_item
decreases-write_item l = 3 * nodes (value_of l.value.now) + 1

abbrev pub decreases-write_row : goal.decreases-write_row
decreases-write_row l = 3 * all_nodes (vals_view l.values.now) + 2

abbrev pub decreases-write_columns : goal.decreases-write_columns
decreases-write_columns l = 3 * all_nodes (parts (mat_view l.matrix.now)) + 2

abbrev pub decreases-write_members : goal.decreases-write_members
decreases-write_members l = 3 * all_nodes (vals_view l.members.now) + 2

abbrev pub invariant-write_row-loop-i : goal.invariant-write_row-loop-i
invariant-write_row-loop-i l = record {
  places : StandInRow (vals_view (drop l.i l.values)) l.far (plan_view l.plan) (l.base + l.i * l.far) (length l.out);
  rest : put_row (vals_view (drop l.i l.values)) l.far (plan_view l.plan) (l.base + l.i * l.far) l.out ≡ put_row (vals_view l.values) l.far (plan_view l.plan) l.base l.fn.out;
}

abbrev pub invariant-write_columns-loop-i : goal.invariant-write_columns-loop-i
invariant-write_columns-loop-i l = record {
  places : StandInRow (from l.i (parts (mat_view l.matrix))) l.far (plan_view l.plan) (l.base + l.i * l.far) (length l.out);
  rest : put_row (from l.i (parts (mat_view l.matrix))) l.far (plan_view l.plan) (l.base + l.i * l.far) l.out ≡ put_row (parts (mat_view l.matrix)) l.far (plan_view l.plan) l.base l.fn.out;
}

abbrev pub invariant-write_members-loop-i : goal.invariant-write_members-loop-i
invariant-write_members-loop-i l = record {
  places : StandAsMembers (vals_view (drop l.i l.members)) (places_view (drop l.i l.places)) l.base (length l.out);
  rest : put_members (vals_view (drop l.i l.members)) (places_view (drop l.i l.places)) l.base l.out ≡ put_members (vals_view l.members) (places_view l.places) l.base l.fn.out;
}
