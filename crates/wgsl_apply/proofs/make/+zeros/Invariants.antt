use Rattle.std.proofs.Common.{◌≡◌, Some, take}
use Rattle.wgsl_apply.specs.Zeros.{zeros_of}
use Rattle.wgsl_rules.specs.View.{members_view}
use Rattle.wgsl_values.specs.View.{vals_view}
use Rattle.wgsl_apply.proofs.make.+zeros.Given as goal

abbrev pub invariant-zero_members-loop-member : goal.invariant-zero_members-loop-member
invariant-zero_members-loop-member l = zeros_of (members_view (take l.member-index l.members)) ≡ Some (vals_view l.values.items)
