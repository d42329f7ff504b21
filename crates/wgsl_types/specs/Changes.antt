-- What each change of an atomic puts in the place of its number (WGSL: atomic read-modify-write).
use Rattle.wgsl_rules.specs.Refusals.{Outcome}
use Rattle.wgsl_rules.specs.Values.{Val}
use Rattle.wgsl_rules.specs.declared.syntax.BinaryOperator.TheVariants as between
use Rattle.wgsl_types.specs.Atomics.{operated}
use Rattle.wgsl_value_builtins.specs.Numeric.{lesser_of, greater_of}
use Rattle.wgsl_types.specs.declared.changes.Change.{Change}
use Rattle.wgsl_types.specs.declared.changes.Change.TheVariants as changes

-- of the number that it holds and the argument
abbrev pub new_number : Change → Val → Val → Outcome Val
new_number changes.Add = operated between.Addition
new_number changes.Subtract = operated between.Subtraction
new_number changes.Maximum = greater_of
new_number changes.Minimum = lesser_of
new_number changes.And = operated between.BitwiseAnd
new_number changes.Or = operated between.BitwiseOr
new_number changes.Xor = operated between.BitwiseXor
