-- The two numbers that an operator joins, in their common kind, and the refusal where there are none.
use Rattle.std.specs.Prelude.{ℤ, Bool, ◌&&◌, Option, Some, None, Ok, Err, if◌then◌else◌}
use Rattle.wgsl_rules.specs.Kinds.{Kind, in_kind}
use Rattle.wgsl_rules.specs.Values.{Val, truth, type_of}
use Rattle.wgsl_rules.specs.Refusals.{Refusal, Outcome, and_then, binary}
use Rattle.wgsl_rules.specs.declared.syntax.BinaryOperator.{BinaryOperator}
use Rattle.wgsl_scalar.specs.Literals.{Number, number_of, kind_of}
use Rattle.wgsl_scalar.specs.Conversions.{common_kind}
use Rattle.wgsl_scalar.specs.declared.kind.Kind.{Kind as CodeKind}

abbrev pub ok_or : {A : Type 0} → Refusal → Option A → Outcome A
ok_or refused None = Err refused
ok_or refused (Some x) = Ok x

-- two numbers of one kind
pub record Operands : Type 0 where
  pub kind : Kind
  pub left : ℤ
  pub right : ℤ

-- both numbers in the kind, where both are numbers of it
abbrev pub both_in : Option Kind → ℤ → ℤ → Option Operands
both_in None x y = None
both_in (Some k) x y = if in_kind k x && in_kind k y then Some (record { kind = k; left = x; right = y }) else None

abbrev pub both_numbers : Option Number → Option Number → Option Operands
both_numbers (Some m) (Some n) = both_in (common_kind m.kind n.kind) m.value n.value
both_numbers m n = None

-- two values as numbers of their common kind
abbrev pub common_operands : Val → Val → Option Operands
common_operands v w = both_numbers (number_of v) (number_of w)

-- the operands of an operator; it is refused with the types as given
abbrev pub operands : BinaryOperator → Val → Val → Outcome Operands
operands op v w = ok_or (binary op (type_of v) (type_of w)) (common_operands v w)

-- what a definition over two numbers of a kind gives for two values
abbrev pub with_operands : {A : Type 0} → BinaryOperator → (Kind → ℤ → ℤ → Outcome A) → Val → Val → Outcome A
with_operands op f v w = and_then (operands op v w) (λ p. f p.kind p.left p.right)

-- two truth values
abbrev pub both_truths : Val → Val → Option (Bool × Bool)
both_truths (truth a) (truth b) = Some (a, b)
both_truths v w = None

-- what two truth values give, or else what other values give
abbrev pub of_truths : {A : Type 0} → (Bool → Bool → A) → Option (Bool × Bool) → A → A
of_truths f (Some p) other = f p.0 p.1
of_truths f None other = other

-- the triple of a kind and two numbers in the code
abbrev pub operands_view : CodeKind × ℤ × ℤ → Operands
operands_view p = record { kind = kind_of p.0; left = p.1; right = p.2 }
