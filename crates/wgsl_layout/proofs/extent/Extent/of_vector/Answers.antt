use Rattle.std.proofs.Common.{◌≡◌, ◌*◌, ◌∙◌, ℕ, ap, refl}
use Rattle.wgsl_rules.specs.Layout.{size}
use Rattle.wgsl_rules.specs.View.{type_view}
use Rattle.wgsl_layout.proofs.Plans.{view-components}
use Rattle.wgsl_layout.proofs.lemmas.Extents.{vector-size}
use Rattle.wgsl_layout.proofs.extent.Extent.of_vector.Goals as goal

pub returns : goal.returns
returns c =
    let t = type_view c.args.component.now in
    let planned = rw (c.in-Components.is, view-components) at c.requires.planned in
    let far : c.in-Components.far ≡ size t = cc (planned) in
    let long = vector-size c.args.n c.in-Components.far t c.requires.laid far in
    (ap (λ (n : ℕ). n * c.in-Components.far) c.from.ensures ∙ long, refl)
