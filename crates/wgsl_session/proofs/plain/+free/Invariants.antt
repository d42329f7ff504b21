use Rattle.std.proofs.Common.{◌+◌, ◌*◌}
use Rattle.wgsl_values.specs.View.{value_of, vals_view}
use Rattle.wgsl_values.proofs.lemmas.Nodes.{nodes, all_nodes}
use Rattle.wgsl_session.proofs.FreeValues.{FreeBelow}
use Rattle.wgsl_session.proofs.plain.+free.Given as goal

abbrev pub decreases-is_free : goal.decreases-is_free
decreases-is_free l = 2 * nodes (value_of l.value.now)

abbrev pub decreases-are_free : goal.decreases-are_free
decreases-are_free l = 2 * all_nodes (vals_view l.values.now) + 1

abbrev pub invariant-are_free-loop-value : goal.invariant-are_free-loop-value
invariant-are_free-loop-value l = FreeBelow l.value-index (vals_view l.values)
