use Rattle.std.proofs.Common.{◌≡◌, ◌++◌, replicate}
use Rattle.wgsl_nodes.specs.Making.{empty_node}
use Rattle.wgsl_nodes.proofs.make.reserve.Given as goal

abbrev pub invariant-loop : goal.invariant-loop
invariant-loop l = l.nodes.items ≡ l.initial.nodes.items ++ replicate l.counter empty_node
