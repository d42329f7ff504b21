-- The places of operators among each other (WGSL: operator precedence and associativity).
use Rattle.std.specs.Prelude.{ℕ}
use Rattle.wgsl_rules.specs.declared.syntax.BinaryOperator.{BinaryOperator}
use Rattle.wgsl_rules.specs.declared.syntax.BinaryOperator.TheVariants as between

-- how tightly an operator binds: the levels of the standard, from the loosest on
abbrev pub precedence_of : BinaryOperator → ℕ
precedence_of between.ShortCircuitOr = 1
precedence_of between.ShortCircuitAnd = 2
precedence_of between.BitwiseOr = 3
precedence_of between.BitwiseXor = 4
precedence_of between.BitwiseAnd = 5
precedence_of between.Equality = 6
precedence_of between.Inequality = 6
precedence_of between.LessThan = 6
precedence_of between.LessThanEqual = 6
precedence_of between.GreaterThan = 6
precedence_of between.GreaterThanEqual = 6
precedence_of between.ShiftLeft = 7
precedence_of between.ShiftRight = 7
precedence_of between.Addition = 8
precedence_of between.Subtraction = 8
precedence_of between.Multiplication = 9
precedence_of between.Division = 9
precedence_of between.Remainder = 9
