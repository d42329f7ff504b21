use Rattle.std.proofs.Common.{◌≡◌, drop, Some}
use Rattle.std.specs.Prelude.{◌&&◌}
use Rattle.wgsl_rules.specs.Size.{extents, greatest_align, end_of_members}
use Rattle.wgsl_rules.specs.Layout.{have_fixed_layouts, end_in_runtime_array}
use Rattle.wgsl_rules.specs.View.{members_view}
use Rattle.wgsl_rules.proofs.lemmas.Members.{ends}
use Rattle.wgsl_rules.proofs.+measures.Given as goal

abbrev pub invariant-measures::measure_members-loop-member : goal.invariant-measures::measure_members-loop-member
invariant-measures::measure_members-loop-member l = record {
  end : end_of_members l.so_far.end (extents (members_view (drop l.member-index l.members)))
      ≡ end_of_members (Some 0) (extents (members_view l.members));
  align : greatest_align l.so_far.align (extents (members_view (drop l.member-index l.members)))
      ≡ greatest_align (Some 0) (extents (members_view l.members));
  fixed : (l.so_far.are_fixed && have_fixed_layouts (members_view (drop l.member-index l.members)))
      ≡ have_fixed_layouts (members_view l.members);
  runtime : ends l.so_far.end_in_runtime_array l.so_far.are_fixed l.so_far.end (members_view (drop l.member-index l.members))
      ≡ end_in_runtime_array (Some 0) (members_view l.members);
}
