use Rattle.std.proofs.Common.{◌≡◌, ◌∙◌, ℕ, List, refl}
use Rattle.wgsl_rules.specs.Types.{Ty, struct, Fields}
use Rattle.wgsl_rules.specs.Size.{size_of}
use Rattle.wgsl_rules.specs.Places.{with_elements, size_with}
use Rattle.wgsl_rules.proofs.lemmas.Views.{not-Struct}
use Rattle.wgsl_rules.proofs.ty.Type.size_with.Goals as goal

other : (k : ℕ) (u : Ty) → ((n : List ℕ) (fs : Fields) → u ≡ struct n fs → ⊥) → size_of (with_elements k u) ≡ size_with k u
other k (struct n fs) h = absurd (h n fs refl)
other k u h = refl

pub returns-in_default : goal.returns-in_default
returns-in_default c = c.measures_with.ensures.size ∙ other c.args.elements _ (not-Struct _ c.in_default.not-Struct)
