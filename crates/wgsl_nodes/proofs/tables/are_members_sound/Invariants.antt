use Rattle.std.proofs.Common.{◌≡◌, drop}
use Rattle.wgsl_nodes.specs.Tables.{are_members_sound}
use Rattle.wgsl_nodes.proofs.tables.are_members_sound.Given as goal

abbrev pub invariant-loop-i : goal.invariant-loop-i
invariant-loop-i l = are_members_sound l.node l.end (drop l.i l.members) ≡ are_members_sound l.node 0 l.members
