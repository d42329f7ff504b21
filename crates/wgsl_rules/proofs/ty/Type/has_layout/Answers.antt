use Rattle.std.proofs.Common.{◌≡◌, ◌∙◌, ℕ, List, Bool, refl, sym, ap}
use Rattle.std.specs.Prelude.{◌||◌}
use Rattle.wgsl_rules.specs.Types.{Ty, struct, Fields}
use Rattle.wgsl_rules.specs.Layout.{has_fixed_layout, is_runtime_array, has_layout}
use Rattle.wgsl_rules.specs.View.{type_view}
use Rattle.wgsl_rules.proofs.lemmas.Views.{not-Struct}
use Rattle.wgsl_rules.proofs.ty.Type.has_layout.Goals as goal

other : (u : Ty) → ((n : List ℕ) (fs : Fields) → u ≡ struct n fs → ⊥) → (has_fixed_layout u || is_runtime_array u) ≡ has_layout u
other (struct n fs) h = absurd (h n fs refl)
other u h = refl

pub returns-else-measures : goal.returns-else-measures
returns-else-measures c =
    let u = type_view c.args.self.now in
    let m = c.measures-measures.ensures in
    m.runtime ∙ ap (λ (b : Bool). b || is_runtime_array u) (sym (sym m.fixed ∙ c.if-measures.false)) ∙ other u (not-Struct _ c.in_default.not-Struct)
