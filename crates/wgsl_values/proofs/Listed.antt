-- The lists of values that iterators go over.
use Rattle.std.proofs.Common.{◌≡◌, List, [], ◌∷◌, map, refl, ap, suc, length}
use Rattle.wgsl_values.specs.Iterators.{listed}
use Rattle.wgsl_values.specs.View.{value_of, vals_view}
use Rattle.wgsl_values.specs.declared.instance.Instance.{Instance}
use Rattle.wgsl_rules.specs.Values.{Vals, no_vals, val, count}

pub all_listed : (vs : List Instance) → map value_of vs ≡ listed (vals_view vs)
all_listed [] = refl
all_listed (v ∷ vs) = ap (λ l. value_of v ∷ l) (all_listed vs)

pub length-listed : (vs : Vals) → length (listed vs) ≡ count vs
length-listed no_vals = refl
length-listed (val v vs) = ap suc (length-listed vs)
