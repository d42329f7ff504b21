use Rattle.std.proofs.Common.{◌≡◌, ◌+◌, drop, option_map}
use Rattle.wgsl_rules.specs.Paths.{index_named}
use Rattle.wgsl_rules.specs.View.{members_view}
use Rattle.wgsl_layout.proofs.located.position.Given as goal

abbrev pub invariant-loop-i : goal.invariant-loop-i
invariant-loop-i l = index_named l.name (members_view l.members) ≡ option_map (λ k. l.i + k) (index_named l.name (members_view (drop l.i l.members)))
