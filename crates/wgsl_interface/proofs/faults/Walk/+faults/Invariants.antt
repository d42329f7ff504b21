use Rattle.std.proofs.Common.{◌≡◌, drop}
use Rattle.std.specs.String.{string_bytes}
use Rattle.wgsl_interface.specs.Faults.{faults_view, with_more, member_faults}
use Rattle.wgsl_rules.specs.View.{members_view}
use Rattle.wgsl_interface.proofs.faults.Walk.+faults.Given as goal

abbrev pub invariant-tell_members-loop-i : goal.invariant-tell_members-loop-i
invariant-tell_members-loop-i l = record {
  path : string_bytes l.self.path ≡ string_bytes l.initial.self.path;
  faults : with_more (faults_view l.self.faults.items) (member_faults l.asked (string_bytes l.initial.self.path) (members_view (drop l.i l.members)))
      ≡ with_more (faults_view l.initial.self.faults.items) (member_faults l.asked (string_bytes l.initial.self.path) (members_view l.members));
}
