use Rattle.std.proofs.Common.{◌≡◌, drop, length}
use Rattle.wgsl_rules.specs.Same.{same_fields}
use Rattle.wgsl_rules.specs.View.{members_view}
use Rattle.wgsl_rules.proofs.eq.+same.Given as goal

abbrev pub invariant-same_members-loop-i : goal.invariant-same_members-loop-i
invariant-same_members-loop-i l =
    (length l.a ≡ length l.b) ×
    (same_fields (members_view (drop l.i l.a)) (members_view (drop l.i l.b)) ≡ same_fields (members_view l.a) (members_view l.b))
