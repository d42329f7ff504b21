-- The operators on any two values, and on one (WGSL: expressions).
use Rattle.std.specs.Prelude.{List, Bool, true, false, Ok, Err, if◌then◌else◌}
use Rattle.wgsl_rules.specs.Paths.{parts}
use Rattle.wgsl_rules.specs.Refusals.{Outcome, unary, binary, ptr_handle, ptr_vec_comp}
use Rattle.wgsl_rules.specs.Values.{Val, truth, number, vector, pointer, reference, type_of}
use Rattle.wgsl_rules.specs.declared.syntax.AddressSpace.{AddressSpace}
use Rattle.wgsl_rules.specs.declared.syntax.AddressSpace.TheVariants as spaces
use Rattle.wgsl_rules.specs.declared.syntax.ShaderStage.{ShaderStage}
use Rattle.wgsl_rules.specs.declared.syntax.UnaryOperator.{UnaryOperator}
use Rattle.wgsl_rules.specs.declared.syntax.UnaryOperator.TheVariants as before
use Rattle.wgsl_rules.specs.declared.syntax.BinaryOperator.{BinaryOperator}
use Rattle.wgsl_rules.specs.declared.syntax.BinaryOperator.TheVariants as between
use Rattle.wgsl_value_ops.specs.Lift.{lifted, vector_of}
use Rattle.wgsl_value_ops.specs.Literals.{of_literal, of_literals}
use Rattle.wgsl_value_ops.specs.Vectors.{of_converted, of_components, of_vector_scalar, of_each_and_scalar, of_scalar_and_each, of_scalar_before}

-- what operators take: literals, and vectors of them
pub data Operand : Type 0 where
  a_literal : Operand
  a_vector : Operand
  no_operand : Operand

abbrev pub operand : Val → Operand
operand (truth b) = a_literal
operand (number k z) = a_literal
operand (vector vs) = a_vector
operand v = no_operand

-- operands that the operator does not take
abbrev pub refused : BinaryOperator → Val → Val → Outcome Val
refused op v w = Err (binary op (type_of v) (type_of w))

-- two vectors: bit expressions join the components as they are, arithmetic and comparison
-- expressions those of the common type; `||` and `&&` take none
abbrev pub of_vectors : BinaryOperator → ShaderStage → Val → Val → Outcome Val
of_vectors between.ShortCircuitOr stage v w = refused between.ShortCircuitOr v w
of_vectors between.ShortCircuitAnd stage v w = refused between.ShortCircuitAnd v w
of_vectors between.BitwiseOr stage v w = of_components between.BitwiseOr stage v w
of_vectors between.BitwiseAnd stage v w = of_components between.BitwiseAnd stage v w
of_vectors between.BitwiseXor stage v w = of_components between.BitwiseXor stage v w
of_vectors between.ShiftLeft stage v w = of_components between.ShiftLeft stage v w
of_vectors between.ShiftRight stage v w = of_components between.ShiftRight stage v w
of_vectors op stage v w = of_converted op stage v w

-- a vector and a scalar: arithmetic expressions alone take them
abbrev pub of_mixed : BinaryOperator → ShaderStage → Val → Val → Outcome Val
of_mixed between.Addition stage v s = of_vector_scalar between.Addition stage v s
of_mixed between.Subtraction stage v s = of_vector_scalar between.Subtraction stage v s
of_mixed between.Multiplication stage v s = of_vector_scalar between.Multiplication stage v s
of_mixed between.Division stage v s = of_each_and_scalar between.Division stage v s
of_mixed between.Remainder stage v s = of_each_and_scalar between.Remainder stage v s
of_mixed op stage v s = refused op v s

-- a scalar and a vector
abbrev pub of_mixed_before : BinaryOperator → ShaderStage → Val → Val → Outcome Val
of_mixed_before between.Addition stage s v = of_scalar_before between.Addition stage s v
of_mixed_before between.Subtraction stage s v = of_scalar_before between.Subtraction stage s v
of_mixed_before between.Multiplication stage s v = of_scalar_before between.Multiplication stage s v
of_mixed_before between.Division stage s v = of_scalar_and_each between.Division stage s v
of_mixed_before between.Remainder stage s v = of_scalar_and_each between.Remainder stage s v
of_mixed_before op stage s v = refused op s v

abbrev pub of_operands : Operand → Operand → BinaryOperator → ShaderStage → Val → Val → Outcome Val
of_operands a_literal a_literal op stage v w = of_literals op stage v w
of_operands a_vector a_vector op stage v w = of_vectors op stage v w
of_operands a_vector a_literal op stage v w = of_mixed op stage v w
of_operands a_literal a_vector op stage v w = of_mixed_before op stage v w
of_operands x y op stage v w = refused op v w

-- what an operator gives for two values, in the stage. Values that are no literals and no vectors, a
-- matrix among them, are refused with their types
abbrev pub of_two : BinaryOperator → ShaderStage → Val → Val → Outcome Val
of_two op stage v w = of_operands (operand v) (operand w) op stage v w

-- a vector: each component
abbrev pub of_each : UnaryOperator → Val → Outcome Val
of_each op v = vector_of (lifted (of_literal op) (parts v))

abbrev pub of_operand : Operand → UnaryOperator → Val → Outcome Val
of_operand a_literal op v = of_literal op v
of_operand a_vector op v = of_each op v
of_operand no_operand op v = Err (unary op (type_of v))

-- what `!`, `-` or `~` gives for a value
abbrev pub of_one : UnaryOperator → Val → Outcome Val
of_one op v = of_operand (operand v) op v
