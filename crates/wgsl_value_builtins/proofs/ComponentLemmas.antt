-- What has components is a vector.
use Rattle.std.proofs.Common.{◌≡◌, Ok, ap}
use Rattle.wgsl_rules.specs.Values.{Val, vector, Vals}
use Rattle.wgsl_value_builtins.specs.Components.{components_of}

pub components-are : (v : Val) (vs : Vals) → components_of v ≡ Ok vs → v ≡ vector vs
components-are (vector vs) ws e = let same : vs ≡ ws = cc in ap vector same
components-are v vs e = absurd (cc)
