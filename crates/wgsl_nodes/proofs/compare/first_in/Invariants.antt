use Rattle.wgsl_nodes.specs.Compare.{AgreeBelow}
use Rattle.wgsl_nodes.proofs.compare.first_in.Given as goal

abbrev pub invariant-loop-i : goal.invariant-loop-i
invariant-loop-i l = AgreeBelow l.in_child l.a l.b l.i
