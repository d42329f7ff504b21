use Rattle.std.proofs.Common.{◌+◌, ◌≤◌, drop, length}
use Rattle.wgsl_rules.specs.View.{members_view}
use Rattle.wgsl_nodes.specs.Making.{Keeps}
use Rattle.wgsl_nodes.proofs.Members.{AreMade}
use Rattle.wgsl_nodes.proofs.Typed.{AreFilled}
use Rattle.wgsl_nodes.proofs.Walk.{AreExactTo}
use Rattle.wgsl_nodes.proofs.make.+add_parts.Given as goal

abbrev pub invariant-add_members-loop-i : goal.invariant-add_members-loop-i
invariant-add_members-loop-i l = record {
  made : AreMade (members_view l.members) (members_view (drop l.i l.members)) l.nodes.items l.child (l.child + length l.members) l.i l.so_far.end l.so_far.align;
  longer : l.child + length l.members ≤ length l.nodes.items;
  kept : Keeps l.fn.nodes.items l.nodes.items;
  filled : AreFilled l.fn.nodes.items l.nodes.items l.child (l.child + length l.members) l.i;
  exact : AreExactTo l.members l.i l.fn.nodes.items l.nodes.items l.so_far.end;
}
