use Rattle.std.proofs.Common.{◌≡◌, ◌∙◌, sym, true}
use Rattle.std.proofs.lemmas.Bool.{false≢true}
use Rattle.wgsl_rules.specs.Layout.{has_layout}
use Rattle.wgsl_rules.specs.View.{type_view}
use Rattle.wgsl_places.proofs.Host.{host}
use Rattle.wgsl_places.proofs.places.Places.of.Goals as goal

pub unreachable-requires : goal.unreachable-requires
unreachable-requires c =
    let laid : has_layout (type_view c.args.ty.now) ≡ true = sym c.has_layout.ensures ∙ c.if-not-has_layout.false in
    let none = rw c.in_default.is at c.in_ok-nodes.ensures in
    false≢true (sym none ∙ host (type_view c.args.ty.now) laid)
