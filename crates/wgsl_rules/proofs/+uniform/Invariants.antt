use Rattle.std.proofs.Common.{◌≡◌, drop, Some}
use Rattle.wgsl_rules.specs.Uniform.{members_rule}
use Rattle.wgsl_rules.specs.View.{members_view}
use Rattle.wgsl_rules.proofs.+uniform.Given as goal

abbrev pub invariant-uniform::members_rule-loop-member : goal.invariant-uniform::members_rule-loop-member
invariant-uniform::members_rule-loop-member l =
    members_rule l.end l.least (members_view (drop l.member-index l.members))
    ≡ members_rule (Some 0) 0 (members_view l.members)
