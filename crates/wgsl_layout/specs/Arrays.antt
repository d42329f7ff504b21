-- How many elements arrays have (WGSL: array types).
use Rattle.std.specs.Prelude.{ℕ, Option, Some, None}
use Rattle.wgsl_rules.specs.Values.{Val, array_of, count}

-- how many elements an array has; no other value has any
abbrev pub elements_in : Val → Option ℕ
elements_in (array_of runtime vs) = Some (count vs)
elements_in v = None
