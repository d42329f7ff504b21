use Rattle.std.proofs.Common.{◌≡◌, drop, false}
use Rattle.std.specs.Prelude.{◌&&◌, ◌||◌}
use Rattle.wgsl_interface.specs.Plain.{are_plain, are_sized, are_concrete}
use Rattle.wgsl_interface.specs.Shared.{are_constructible, are_host_shareable, have_atomic}
use Rattle.wgsl_rules.specs.View.{members_view}
use Rattle.wgsl_interface.proofs.nature.+natures.Given as goal

abbrev pub invariant-nature_of_members-loop-i : goal.invariant-nature_of_members-loop-i
invariant-nature_of_members-loop-i l = record {
  plain : (l.all.is_plain && are_plain (members_view (drop l.i l.members))) ≡ (l.is_shape && are_plain (members_view l.members));
  sized : (l.all.is_sized && are_sized (members_view (drop l.i l.members))) ≡ are_sized (members_view l.members);
  runtime : l.all.is_runtime_sized ≡ false;
  concrete : (l.all.is_concrete && are_concrete (members_view (drop l.i l.members))) ≡ are_concrete (members_view l.members);
  constructible : (l.all.is_constructible && are_constructible (members_view (drop l.i l.members))) ≡ (l.is_shape && are_constructible (members_view l.members));
  shareable : (l.all.is_host_shareable && are_host_shareable (members_view (drop l.i l.members))) ≡ (l.is_shape && are_host_shareable (members_view l.members));
  atomic : (l.all.has_atomic || have_atomic (members_view (drop l.i l.members))) ≡ have_atomic (members_view l.members);
}
