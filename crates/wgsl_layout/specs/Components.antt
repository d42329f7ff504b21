-- Values with components (WGSL: vector types).
use Rattle.std.specs.Prelude.{Bool, true, false}
use Rattle.wgsl_rules.specs.Values.{Val, vector}

-- a vector
abbrev pub is_vector : Val → Bool
is_vector (vector vs) = true
is_vector v = false
