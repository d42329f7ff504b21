use Rattle.std.proofs.Common.{◌≡◌, ◌++◌, drop, Some}
use Rattle.wgsl_rules.specs.Places.{layouts_behind}
use Rattle.wgsl_rules.specs.Size.{extents}
use Rattle.wgsl_rules.specs.View.{members_view}
use Rattle.wgsl_rules.proofs.places.layouts_of.Given as goal

abbrev pub invariant-loop-i : goal.invariant-loop-i
invariant-loop-i l =
    l.layouts.items ++ layouts_behind l.size l.end (extents (members_view (drop l.i l.members)))
    ≡ layouts_behind l.size (Some 0) (extents (members_view l.members))
