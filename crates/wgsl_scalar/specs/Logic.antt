-- Logical operators (WGSL: logical expressions).
use Rattle.std.specs.Prelude.{not, ◌&&◌, ◌||◌, Ok, Err}
use Rattle.wgsl_rules.specs.Values.{Val, truth, type_of}
use Rattle.wgsl_rules.specs.Refusals.{Outcome, unary, binary}
use Rattle.wgsl_rules.specs.declared.syntax.UnaryOperator.TheVariants as before
use Rattle.wgsl_rules.specs.declared.syntax.BinaryOperator.TheVariants as between

abbrev pub logical_negation : Val → Outcome Val
logical_negation (truth b) = Ok (truth (not b))
logical_negation v = Err (unary before.LogicalNegation (type_of v))

abbrev pub disjunction : Val → Val → Outcome Val
disjunction (truth a) (truth b) = Ok (truth (a || b))
disjunction v w = Err (binary between.ShortCircuitOr (type_of v) (type_of w))

abbrev pub conjunction : Val → Val → Outcome Val
conjunction (truth a) (truth b) = Ok (truth (a && b))
conjunction v w = Err (binary between.ShortCircuitAnd (type_of v) (type_of w))
