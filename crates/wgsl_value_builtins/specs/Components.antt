-- The components of vectors (WGSL: vector types).
use Rattle.std.specs.Prelude.{Ok, Err}
use Rattle.wgsl_rules.specs.Refusals.{Outcome, builtin}
use Rattle.wgsl_rules.specs.Values.{Val, vector, Vals}

-- the components of a vector; another value is refused
abbrev pub components_of : Val → Outcome Vals
components_of (vector vs) = Ok vs
components_of v = Err builtin
