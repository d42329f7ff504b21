-- What literals and components of values are.
use Rattle.std.specs.Prelude.{ℕ, ◌^◌, pos, nat_lt, Bool, true, false, Option, Some, None, option_and_then, if◌then◌else◌}
use Rattle.wgsl_rules.specs.Values.{Val, truth, number, vector, item}
use Rattle.wgsl_scalar.specs.Arith.{is_zero}

abbrev pub as_literal : Val → Option Val
as_literal (truth b) = Some (truth b)
as_literal (number k z) = Some (number k z)
as_literal v = None

-- a component of a vector, or the literal itself at each place
abbrev pub component_of : Val → ℕ → Option Val
component_of (vector vs) i = option_and_then as_literal (item i vs)
component_of v i = as_literal v

-- an integer from 0 to 2 ^ 32 - 1, of any kind
abbrev pub natural_of : Val → Option ℕ
natural_of (number k (pos n)) = if nat_lt n (2 ^ 32) then Some n else None
natural_of v = None

-- the number 0, of any kind
abbrev pub is_zero_number : Val → Bool
is_zero_number (number k z) = is_zero z
is_zero_number v = false

-- what a message prints: literals, and vectors of them
abbrev pub is_short : Val → Bool
is_short (truth b) = true
is_short (number k z) = true
is_short (vector vs) = true
is_short v = false
