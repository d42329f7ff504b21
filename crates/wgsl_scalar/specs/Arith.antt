-- Negation, sums, differences, products, quotients and remainders (WGSL: arithmetic expressions).
use Rattle.std.specs.Prelude.{suc, ◌/◌, ℤ, pos, negsuc, neg_ℤ, ◌+ℤ◌, ◌-ℤ◌, ◌*ℤ◌, Bool, true, false, not, ◌&&◌, ◌||◌, if◌then◌else◌, Ok, Err}
use Rattle.std.specs.Ordering.{int_eq}
use Rattle.wgsl_rules.specs.Kinds as kinds
use Rattle.wgsl_rules.specs.Kinds.{Kind, in_kind, is_signed, wrap}
use Rattle.wgsl_rules.specs.Values.{Val, number, type_of}
use Rattle.wgsl_rules.specs.Refusals.{Refusal, Outcome, and_then, unary, add_overflow, sub_overflow, mul_overflow, div_by_zero, rem_zero_div}
use Rattle.wgsl_rules.specs.declared.syntax.ShaderStage.{ShaderStage}
use Rattle.wgsl_rules.specs.declared.syntax.ShaderStage.TheVariants as stages
use Rattle.wgsl_rules.specs.declared.syntax.UnaryOperator.TheVariants as before
use Rattle.wgsl_rules.specs.declared.syntax.BinaryOperator.TheVariants as between
use Rattle.wgsl_scalar.specs.Literals.{number_of}
use Rattle.wgsl_scalar.specs.Operands.{ok_or, with_operands}

-- ---- negation

-- the negative of a signed number wraps; an unsigned one has none
abbrev pub negation_in : Refusal → Kind → ℤ → Outcome Val
negation_in refused k z = if is_signed k then Ok (number k (wrap k (neg_ℤ z))) else Err refused

abbrev pub negation : Val → Outcome Val
negation v =
    and_then (ok_or (unary before.Negation (type_of v)) (number_of v)) (λ n. negation_in (unary before.Negation (type_of v)) n.kind n.value)

-- ---- sums, differences and products

abbrev pub is_abstract : Kind → Bool
is_abstract kinds.abstract_int = true
is_abstract k = false

-- an abstract number that is out of range
abbrev pub overflows : Kind → ℤ → Bool
overflows k z = is_abstract k && not (in_kind k z)

-- a number wraps to its kind, but an abstract one is refused out of range
abbrev pub wrapped_or : Refusal → Kind → ℤ → Outcome Val
wrapped_or refused k z = if overflows k z then Err refused else Ok (number k (wrap k z))

abbrev pub sum_in : Kind → ℤ → ℤ → Outcome Val
sum_in k a b = wrapped_or add_overflow k (a +ℤ b)

abbrev pub difference_in : Kind → ℤ → ℤ → Outcome Val
difference_in k a b = wrapped_or sub_overflow k (a -ℤ b)

abbrev pub product_in : Kind → ℤ → ℤ → Outcome Val
product_in k a b = wrapped_or mul_overflow k (a *ℤ b)

abbrev pub sum : Val → Val → Outcome Val
sum v w = with_operands between.Addition sum_in v w

abbrev pub difference : Val → Val → Outcome Val
difference v w = with_operands between.Subtraction difference_in v w

abbrev pub product : Val → Val → Outcome Val
product v w = with_operands between.Multiplication product_in v w

-- ---- quotients and remainders

-- the quotient of the magnitudes, under the sign of the product: it is cut toward zero
abbrev pub cut_quotient : ℤ → ℤ → ℤ
cut_quotient (pos a) (pos b) = pos (a / b)
cut_quotient (pos a) (negsuc b) = neg_ℤ (pos (a / suc b))
cut_quotient (negsuc a) (pos b) = neg_ℤ (pos (suc a / b))
cut_quotient (negsuc a) (negsuc b) = pos (suc a / suc b)

-- what the quotient leaves
abbrev pub cut_remainder : ℤ → ℤ → ℤ
cut_remainder a b = a -ℤ b *ℤ cut_quotient a b

abbrev pub is_zero : ℤ → Bool
is_zero z = int_eq z (pos 0)

-- the kinds whose least number divided by -1 is itself
abbrev pub wraps_quotient : Kind → Bool
wraps_quotient kinds.i64 = true
wraps_quotient k = false

-- the quotient is a number of the kind, or wraps
abbrev pub takes_quotient : Kind → ℤ → Bool
takes_quotient k q = wraps_quotient k || in_kind k q

-- there is a quotient: the divisor is not 0, and the kind takes the quotient
abbrev pub has_quotient : Kind → ℤ → ℤ → Bool
has_quotient k a b = not (is_zero b) && takes_quotient k (cut_quotient a b)

-- where there is no quotient, a shader that runs answers the left side
abbrev pub no_quotient : ShaderStage → Kind → ℤ → Outcome Val
no_quotient stages.Exec k a = Ok (number k a)
no_quotient stage k a = Err div_by_zero

abbrev pub quotient_in : ShaderStage → Kind → ℤ → ℤ → Outcome Val
quotient_in stage k a b = if has_quotient k a b then Ok (number k (wrap k (cut_quotient a b))) else no_quotient stage k a

abbrev pub quotient : ShaderStage → Val → Val → Outcome Val
quotient stage v w = with_operands between.Division (quotient_in stage) v w

-- the divisor is not 0, and the quotient is a number of the kind
abbrev pub has_remainder : Kind → ℤ → ℤ → Bool
has_remainder k a b = not (is_zero b) && in_kind k (cut_quotient a b)

-- where there is no remainder, it is 0 once the shader module is made
abbrev pub no_remainder : ShaderStage → Kind → Outcome Val
no_remainder stages.Const k = Err rem_zero_div
no_remainder stage k = Ok (number k (pos 0))

abbrev pub remainder_in : ShaderStage → Kind → ℤ → ℤ → Outcome Val
remainder_in stage k a b = if has_remainder k a b then Ok (number k (cut_remainder a b)) else no_remainder stage k

abbrev pub remainder : ShaderStage → Val → Val → Outcome Val
remainder stage v w = with_operands between.Remainder (remainder_in stage) v w
