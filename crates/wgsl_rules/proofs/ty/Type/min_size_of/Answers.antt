use Rattle.std.proofs.Common.{◌≡◌, ◌∙◌, ℕ, Option, refl}
use Rattle.wgsl_rules.specs.Types.{Ty, array}
use Rattle.wgsl_rules.specs.Size.{size_of, min_size_of}
use Rattle.wgsl_rules.proofs.lemmas.Views.{not-Array}
use Rattle.wgsl_rules.proofs.ty.Type.min_size_of.Goals as goal

other : (u : Ty) → ((t : Ty) (n : Option ℕ) → u ≡ array t n → ⊥) → size_of u ≡ min_size_of u
other (array t n) h = absurd (h t n refl)
other u h = refl

pub returns-in_default : goal.returns-in_default
returns-in_default c = c.size_of.ensures ∙ other _ (not-Array _ c.in_default.not-Array)
