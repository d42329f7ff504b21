use Rattle.std.proofs.Common.{◌≡◌, ◌+◌, drop, option_map}
use Rattle.wgsl_rules.specs.Paths.{index_in, index_named}
use Rattle.wgsl_rules.specs.View.{struct_view as struct_type_view, members_view}
use Rattle.wgsl_values.proofs.shared.position.Given as goal

abbrev pub invariant-loop-i : goal.invariant-loop-i
invariant-loop-i l =
    index_in l.name (struct_type_view l.ty) ≡ option_map (λ k. l.i + k) (index_named l.name (members_view (drop l.i l.member-items)))
