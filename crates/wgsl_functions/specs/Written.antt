-- Conversions that a source writes out (WGSL: value constructor built-in functions).
use Rattle.std.specs.Prelude.{pos, Bool, false, not, Option, Some, None}
use Rattle.std.specs.Ordering.{int_eq}
use Rattle.wgsl_rules.specs.Converted.{converted}
use Rattle.wgsl_rules.specs.Kinds as kinds
use Rattle.wgsl_rules.specs.Kinds.{wrap}
use Rattle.wgsl_rules.specs.Types as types
use Rattle.wgsl_rules.specs.Types.{Ty}
use Rattle.wgsl_rules.specs.Values.{Val, truth, number}
use Rattle.wgsl_scalar.specs.Order.{bit_of}

-- true, or a number other than 0
abbrev pub is_true : Val → Bool
is_true (truth b) = b
is_true (number k z) = not (int_eq z (pos 0))
is_true v = false

-- false is 0, and true is 1
abbrev pub truth_as : Bool → Ty → Option Val
truth_as b types.bool = Some (truth b)
truth_as b types.i32 = Some (number kinds.i32 (bit_of b))
truth_as b types.u32 = Some (number kinds.u32 (bit_of b))
truth_as b t = None

-- what a scalar is in a type that is written out. A number is a bool as it is not 0; an i32 and a u32 are each other
-- modulo 2 ^ 32. Other numbers are what they convert to by themselves: their own type, and an abstract integer an
-- i32 or a u32 where it is in range
abbrev pub written : Val → Ty → Option Val
written (truth b) t = truth_as b t
written (number k z) types.bool = Some (truth (is_true (number k z)))
written (number kinds.i32 z) types.u32 = Some (number kinds.u32 (wrap kinds.u32 z))
written (number kinds.u32 z) types.i32 = Some (number kinds.i32 (wrap kinds.i32 z))
written v t = converted v t
