-- The operators on vectors: what both sides are converted to first, and then the operator on literals,
-- component by component (WGSL: arithmetic expressions; bit expressions; comparison expressions).
use Rattle.std.specs.Prelude.{Ok, Err, pos, ◌==◌, if◌then◌else◌}
use Rattle.wgsl_rules.specs.Converted.{converted, inner_converted}
use Rattle.wgsl_rules.specs.InCommon.{in_common, inner_in_common}
use Rattle.wgsl_rules.specs.Kinds as kinds
use Rattle.wgsl_rules.specs.Paths.{parts}
use Rattle.wgsl_rules.specs.Refusals.{Outcome, and_then, binary, compwise_binary}
use Rattle.wgsl_rules.specs.Values.{Val, number, Vals, no_vals, val, count, type_of}
use Rattle.wgsl_rules.specs.declared.syntax.ShaderStage.{ShaderStage}
use Rattle.wgsl_rules.specs.declared.syntax.BinaryOperator.{BinaryOperator}
use Rattle.wgsl_rules.specs.declared.syntax.BinaryOperator.TheVariants as between
use Rattle.wgsl_scalar.specs.Arith.{sum}
use Rattle.wgsl_scalar.specs.Operands.{ok_or}
use Rattle.wgsl_value_ops.specs.Lift.{lifted, lifted2, vector_of}
use Rattle.wgsl_value_ops.specs.Literals.{of_literals}

-- ---- two vectors

-- both in their common type first; without one the refusal names the types of the vectors
-- (WGSL: overload resolution algorithm)
abbrev pub of_converted : BinaryOperator → ShaderStage → Val → Val → Outcome Val
of_converted op stage v w =
    and_then (ok_or (binary op (type_of v) (type_of w)) (in_common converted v w)) (λ p. vector_of (lifted2 (of_literals op stage) (parts p.0) (parts p.1)))

-- each two components by themselves; there have to be as many on both sides
abbrev pub of_components : BinaryOperator → ShaderStage → Val → Val → Outcome Val
of_components op stage v w =
    if count (parts v) == count (parts w)
    then vector_of (lifted2 (of_literals op stage) (parts v) (parts w))
    else Err (compwise_binary (type_of v) (type_of w))

-- ---- a vector and a scalar

-- the components and the scalar in their common type first; without one the refusal names the types
-- as given (WGSL: arithmetic expressions, mixed scalar and vector operands)
abbrev pub of_vector_scalar : BinaryOperator → ShaderStage → Val → Val → Outcome Val
of_vector_scalar op stage v s =
    and_then (ok_or (binary op (type_of v) (type_of s)) (inner_in_common inner_converted inner_converted v s)) (λ p. vector_of (lifted (λ c. of_literals op stage c p.1) (parts p.0)))

abbrev pub of_scalar_vector : BinaryOperator → ShaderStage → Val → Val → Outcome Val
of_scalar_vector op stage s v =
    and_then (ok_or (binary op (type_of s) (type_of v)) (inner_in_common inner_converted inner_converted s v)) (λ p. vector_of (lifted (of_literals op stage p.0) (parts p.1)))

-- each component by itself with the scalar: a refusal names scalar types
abbrev pub of_each_and_scalar : BinaryOperator → ShaderStage → Val → Val → Outcome Val
of_each_and_scalar op stage v s = vector_of (lifted (λ c. of_literals op stage c s) (parts v))

abbrev pub of_scalar_and_each : BinaryOperator → ShaderStage → Val → Val → Outcome Val
of_scalar_and_each op stage s v = vector_of (lifted (of_literals op stage s) (parts v))

-- a scalar before a vector, as the calls on the scalar take it: a sum and a product are those of the
-- vector and the scalar, its types in a refusal included
abbrev pub of_scalar_before : BinaryOperator → ShaderStage → Val → Val → Outcome Val
of_scalar_before between.Addition stage s v = of_vector_scalar between.Addition stage v s
of_scalar_before between.Multiplication stage s v = of_vector_scalar between.Multiplication stage v s
of_scalar_before op stage s v = of_scalar_vector op stage s v

-- ---- the dot product

-- the sum of a value and those after it, from the left
abbrev pub sum_from : Val → Vals → Outcome Val
sum_from v no_vals = Ok v
sum_from v (val w ws) = and_then (sum v w) (λ x. sum_from x ws)

abbrev pub total : Vals → Outcome Val
total no_vals = Ok (number kinds.abstract_int (pos 0))
total (val v vs) = sum_from v vs

-- all products first, and then their sum from the left (WGSL: dot)
abbrev pub dot_product : ShaderStage → Val → Val → Outcome Val
dot_product stage v w = and_then (of_components between.Multiplication stage v w) (λ products. total (parts products))
