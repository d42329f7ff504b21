use Rattle.wgsl_nodes.specs.Names.{AreRenamed}
use Rattle.wgsl_report.proofs.records.+name_members.Given as goal

abbrev pub invariant-name_each-loop-i : goal.invariant-name_each-loop-i
invariant-name_each-loop-i l = AreRenamed l.fn.nodes l.nodes
