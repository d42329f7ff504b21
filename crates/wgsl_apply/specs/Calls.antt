-- What the operators that a source writes give for values (WGSL: expressions).
use Rattle.wgsl_rules.specs.Refusals.{Outcome, unary}
use Rattle.std.specs.Prelude.{Err}
use Rattle.wgsl_rules.specs.Values.{Val, type_of}
use Rattle.wgsl_rules.specs.declared.syntax.ShaderStage.{ShaderStage}
use Rattle.wgsl_rules.specs.declared.syntax.ShaderStage.TheVariants as stages
use Rattle.wgsl_rules.specs.declared.syntax.UnaryOperator.{UnaryOperator}
use Rattle.wgsl_rules.specs.declared.syntax.UnaryOperator.TheVariants as before
use Rattle.wgsl_rules.specs.declared.syntax.BinaryOperator.{BinaryOperator}
use Rattle.wgsl_rules.specs.declared.syntax.BinaryOperator.TheVariants as between
use Rattle.wgsl_value_ops.specs.Instances.{of_one, of_two}

-- the operator between two values; arithmetic and shifts alone depend on the stage
abbrev pub operated : BinaryOperator → ShaderStage → Val → Val → Outcome Val
operated between.Addition stage v w = of_two between.Addition stage v w
operated between.Subtraction stage v w = of_two between.Subtraction stage v w
operated between.Multiplication stage v w = of_two between.Multiplication stage v w
operated between.Division stage v w = of_two between.Division stage v w
operated between.Remainder stage v w = of_two between.Remainder stage v w
operated between.ShiftLeft stage v w = of_two between.ShiftLeft stage v w
operated between.ShiftRight stage v w = of_two between.ShiftRight stage v w
operated op stage v w = of_two op stages.Exec v w

-- the operator before a value; constants are no memory, so the address-of and indirection operators are refused
abbrev pub prefixed : UnaryOperator → Val → Outcome Val
prefixed before.AddressOf v = Err (unary before.AddressOf (type_of v))
prefixed before.Indirection v = Err (unary before.Indirection (type_of v))
prefixed op v = of_one op v
