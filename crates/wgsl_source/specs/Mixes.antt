-- Which operators stand beside each other without brackets (WGSL: expression grammar).
use Rattle.std.specs.Prelude.{Bool, true, false, ◌||◌}
use Rattle.wgsl_rules.specs.declared.syntax.BinaryOperator.{BinaryOperator}
use Rattle.wgsl_rules.specs.declared.syntax.BinaryOperator.TheVariants as between

-- the forms of expressions that the grammar has
pub data Form : Type 0 where
  unary : Form
  multiplicative : Form
  additive : Form
  shift : Form
  relational : Form
  short_circuit_and : Form
  short_circuit_or : Form
  binary_and : Form
  binary_or : Form
  binary_xor : Form

-- the form of an expression with the operator
abbrev pub form_of : BinaryOperator → Form
form_of between.Multiplication = multiplicative
form_of between.Division = multiplicative
form_of between.Remainder = multiplicative
form_of between.Addition = additive
form_of between.Subtraction = additive
form_of between.ShiftLeft = shift
form_of between.ShiftRight = shift
form_of between.LessThan = relational
form_of between.LessThanEqual = relational
form_of between.GreaterThan = relational
form_of between.GreaterThanEqual = relational
form_of between.Equality = relational
form_of between.Inequality = relational
form_of between.ShortCircuitAnd = short_circuit_and
form_of between.ShortCircuitOr = short_circuit_or
form_of between.BitwiseAnd = binary_and
form_of between.BitwiseOr = binary_or
form_of between.BitwiseXor = binary_xor

-- the form of what stands left of the operator in an expression of this form
abbrev pub left_of : Form → Form
left_of unary = unary
left_of multiplicative = multiplicative
left_of additive = additive
left_of shift = unary
left_of relational = shift
left_of short_circuit_and = short_circuit_and
left_of short_circuit_or = short_circuit_or
left_of binary_and = binary_and
left_of binary_or = binary_or
left_of binary_xor = binary_xor

-- the form of what stands right of it
abbrev pub right_of : Form → Form
right_of unary = unary
right_of multiplicative = unary
right_of additive = multiplicative
right_of shift = unary
right_of relational = shift
right_of short_circuit_and = relational
right_of short_circuit_or = relational
right_of binary_and = unary
right_of binary_or = unary
right_of binary_xor = unary

-- each form that an expression of the first one is, itself and what it is by the grammar's alternatives
abbrev pub is_one : Form → Form → Bool
is_one unary g = true
is_one multiplicative multiplicative = true
is_one multiplicative additive = true
is_one multiplicative shift = true
is_one multiplicative relational = true
is_one multiplicative short_circuit_and = true
is_one multiplicative short_circuit_or = true
is_one additive additive = true
is_one additive shift = true
is_one additive relational = true
is_one additive short_circuit_and = true
is_one additive short_circuit_or = true
is_one shift shift = true
is_one shift relational = true
is_one shift short_circuit_and = true
is_one shift short_circuit_or = true
is_one relational relational = true
is_one relational short_circuit_and = true
is_one relational short_circuit_or = true
is_one short_circuit_and short_circuit_and = true
is_one short_circuit_or short_circuit_or = true
is_one binary_and binary_and = true
is_one binary_or binary_or = true
is_one binary_xor binary_xor = true
is_one f g = false

-- whether the second may follow the first in the same brackets: one of the two is an operand of the other
abbrev pub may_stand_beside : BinaryOperator → BinaryOperator → Bool
may_stand_beside first second =
    is_one (form_of first) (left_of (form_of second)) || is_one (form_of second) (right_of (form_of first))
