-- Definitions over literals, taken to values: literals, and vectors by component (WGSL: builtin functions;
-- overload resolution algorithm).
use Rattle.std.specs.Prelude.{Err}
use Rattle.wgsl_value_ops.specs.Lift.{lifted, lifted2, vector_of}
use Rattle.wgsl_rules.specs.Converted.{converted}
use Rattle.wgsl_rules.specs.InCommon.{in_common}
use Rattle.wgsl_rules.specs.Refusals.{Outcome, builtin}
use Rattle.wgsl_rules.specs.Values.{Val, truth, number, vector}
use Rattle.wgsl_scalar.specs.Operands.{ok_or}

-- of a literal, or by component of a vector; a builtin function takes no other value
abbrev pub on_components : (Val → Outcome Val) → Val → Outcome Val
on_components f (truth b) = f (truth b)
on_components f (number k z) = f (number k z)
on_components f (vector vs) = vector_of (lifted f vs)
on_components f v = Err builtin

-- of two values of one type: by component of two vectors, else of the values themselves
abbrev pub on_both : (Val → Val → Outcome Val) → Val → Val → Outcome Val
on_both f (vector vs) (vector ws) = vector_of (lifted2 f vs ws)
on_both f v w = f v w

-- two arguments in their common type
abbrev pub in_common_type : Val → Val → Outcome (Val × Val)
in_common_type v w = ok_or builtin (in_common converted v w)
