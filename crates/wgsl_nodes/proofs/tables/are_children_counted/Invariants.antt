use Rattle.std.proofs.Common.{◌≡◌, ◌+◌, ◌≤◌, drop, length, sum_by}
use Rattle.wgsl_nodes.specs.Tables.{children_counted}
use Rattle.wgsl_nodes.proofs.tables.are_children_counted.Given as goal

abbrev pub invariant-loop-node : goal.invariant-loop-node
invariant-loop-node l = record {
  all : l.total + sum_by children_counted (drop l.node-index l.nodes) ≡ sum_by children_counted l.nodes;
  few : l.total ≤ length l.nodes;
}
