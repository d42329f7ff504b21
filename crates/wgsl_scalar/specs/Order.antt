-- Comparisons (WGSL: comparison expressions), and the lesser and the greater of two numbers.
use Rattle.std.specs.Prelude.{ℤ, pos, int_lt, int_le, Bool, true, false, not, if◌then◌else◌, Ok}
use Rattle.std.specs.Ordering.{int_eq}
use Rattle.wgsl_rules.specs.Values.{Val, number}
use Rattle.wgsl_rules.specs.Refusals.{Outcome, and_then, builtin}
use Rattle.wgsl_rules.specs.declared.syntax.BinaryOperator.{BinaryOperator}
use Rattle.wgsl_rules.specs.declared.syntax.BinaryOperator.TheVariants as between
use Rattle.wgsl_scalar.specs.Operands.{ok_or, with_operands, common_operands, both_truths, of_truths}
use Rattle.wgsl_scalar.specs.declared.builtin.BuiltinReason.{BuiltinReason}
use Rattle.wgsl_scalar.specs.declared.builtin.BuiltinReason.TheVariants as reasons

-- a bool as a number: false is below true
abbrev pub bit_of : Bool → ℤ
bit_of false = pos 0
bit_of true = pos 1

-- the two numbers that an operator compares
abbrev pub compared : BinaryOperator → Val → Val → Outcome (ℤ × ℤ)
compared op v w = of_truths (λ a b. Ok (bit_of a, bit_of b)) (both_truths v w) (with_operands op (λ k x y. Ok (x, y)) v w)

abbrev pub is_equal : Val → Val → Outcome Bool
is_equal v w = and_then (compared between.Equality v w) (λ p. Ok (int_eq p.0 p.1))

abbrev pub is_unequal : Val → Val → Outcome Bool
is_unequal v w = and_then (compared between.Inequality v w) (λ p. Ok (not (int_eq p.0 p.1)))

abbrev pub is_less : Val → Val → Outcome Bool
is_less v w = and_then (compared between.LessThan v w) (λ p. Ok (int_lt p.0 p.1))

abbrev pub is_at_most : Val → Val → Outcome Bool
is_at_most v w = and_then (compared between.LessThanEqual v w) (λ p. Ok (int_le p.0 p.1))

abbrev pub is_greater : Val → Val → Outcome Bool
is_greater v w = and_then (compared between.GreaterThan v w) (λ p. Ok (int_lt p.1 p.0))

abbrev pub is_at_least : Val → Val → Outcome Bool
is_at_least v w = and_then (compared between.GreaterThanEqual v w) (λ p. Ok (int_le p.1 p.0))

-- ---- the lesser and the greater (WGSL: numeric builtin functions)

abbrev pub lesser : ℤ → ℤ → ℤ
lesser a b = if int_le a b then a else b

abbrev pub greater : ℤ → ℤ → ℤ
greater a b = if int_le a b then b else a

-- why neither of two is the lesser: bools are of one type, but no numbers
abbrev pub why_unordered : Val → Val → BuiltinReason
why_unordered v w = of_truths (λ a b. reasons.NotNumber) (both_truths v w) reasons.NoCommonType

abbrev pub minimum : Val → Val → Outcome Val
minimum v w = and_then (ok_or builtin (common_operands v w)) (λ p. Ok (number p.kind (lesser p.left p.right)))

abbrev pub maximum : Val → Val → Outcome Val
maximum v w = and_then (ok_or builtin (common_operands v w)) (λ p. Ok (number p.kind (greater p.left p.right)))
