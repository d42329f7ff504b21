use Rattle.std.proofs.Common.{◌≡◌, ℕ, Option, refl, subst}
use Rattle.wgsl_rules.specs.Types.{Ty, array}
use Rattle.wgsl_rules.specs.Measures.{AreMeasuresOf}
use Rattle.wgsl_rules.specs.Places.{with_elements}
use Rattle.wgsl_rules.proofs.lemmas.Views.{not-Array}
use Rattle.wgsl_rules.proofs.ty.Type.measures_with.Goals as goal

other : (k : ℕ) (u : Ty) → ((t : Ty) (n : Option ℕ) → u ≡ array t n → ⊥) → u ≡ with_elements k u
other k (array t n) h = absurd (h t n refl)
other k u h = refl

pub returns-in_default : goal.returns-in_default
returns-in_default c =
    let m = c.measures-in_default.ensures in
    subst (λ (u : Ty). AreMeasuresOf u c.measures-in_default.result) (other c.args.elements _ (not-Array _ c.in_default.not-Array))
    (record { size = m.size; align = m.align; fixed = m.fixed; runtime = m.runtime })
