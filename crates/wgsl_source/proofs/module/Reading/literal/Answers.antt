use Rattle.std.proofs.Common.{ℕ, List, subst}
use Rattle.wgsl_source.specs.Numbers.{Means}
use Rattle.wgsl_source.proofs.module.Reading.literal.Goals as goal

pub returns : goal.returns
returns c = let P : List ℕ → Type 0 = λ w. Means w c.literal_of.result in subst P c.word.ensures c.literal_of.ensures
