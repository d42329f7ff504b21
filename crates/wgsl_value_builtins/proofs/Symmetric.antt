-- The lesser and the greater of two values do not depend on their order.
use Rattle.std.proofs.Common.{◌≡◌, ◌∙◌, ℤ, Bool, true, false, ◌&&◌, Option, Some, None, Ok, if◌then◌else◌, refl, ap, ap₂, arith}
use Rattle.std.proofs.lemmas.Int.{ints}
use Rattle.wgsl_value_ops.specs.Lift.{followed, lifted2, vector_of}
use Rattle.wgsl_rules.proofs.lemmas.CommonTypes.{common_types_commute}
use Rattle.wgsl_rules.specs.Conversion.{common_type}
use Rattle.wgsl_rules.specs.Converted.{converted}
use Rattle.wgsl_rules.specs.InCommon.{both, both_in, in_common}
use Rattle.wgsl_rules.specs.Kinds as kinds
use Rattle.wgsl_rules.specs.Kinds.{Kind, in_kind}
use Rattle.wgsl_rules.specs.Refusals.{Outcome, and_then, builtin}
use Rattle.wgsl_rules.specs.Types.{Ty}
use Rattle.wgsl_rules.specs.Values.{Val, number, vector, Vals, no_vals, val, type_of}
use Rattle.wgsl_scalar.specs.Conversions.{common_kind}
use Rattle.wgsl_scalar.specs.Literals.{Number, number_of}
use Rattle.wgsl_scalar.specs.Operands.{ok_or, Operands, both_in as operands_in, both_numbers}
use Rattle.wgsl_scalar.specs.Order.{lesser, greater, minimum, maximum}
use Rattle.wgsl_value_builtins.specs.Laws.{MinAndMaxAreSymmetric}
use Rattle.wgsl_value_builtins.specs.Lifts.{on_both}

-- ---- of two numbers

kinds_commute : (j k : Kind) → common_kind j k ≡ common_kind k j
kinds_commute kinds.abstract_int kinds.abstract_int = refl
kinds_commute kinds.abstract_int kinds.i32 = refl
kinds_commute kinds.abstract_int kinds.u32 = refl
kinds_commute kinds.abstract_int kinds.i64 = refl
kinds_commute kinds.abstract_int kinds.u64 = refl
kinds_commute kinds.i32 kinds.abstract_int = refl
kinds_commute kinds.i32 kinds.i32 = refl
kinds_commute kinds.i32 kinds.u32 = refl
kinds_commute kinds.i32 kinds.i64 = refl
kinds_commute kinds.i32 kinds.u64 = refl
kinds_commute kinds.u32 kinds.abstract_int = refl
kinds_commute kinds.u32 kinds.i32 = refl
kinds_commute kinds.u32 kinds.u32 = refl
kinds_commute kinds.u32 kinds.i64 = refl
kinds_commute kinds.u32 kinds.u64 = refl
kinds_commute kinds.i64 kinds.abstract_int = refl
kinds_commute kinds.i64 kinds.i32 = refl
kinds_commute kinds.i64 kinds.u32 = refl
kinds_commute kinds.i64 kinds.i64 = refl
kinds_commute kinds.i64 kinds.u64 = refl
kinds_commute kinds.u64 kinds.abstract_int = refl
kinds_commute kinds.u64 kinds.i32 = refl
kinds_commute kinds.u64 kinds.u32 = refl
kinds_commute kinds.u64 kinds.i64 = refl
kinds_commute kinds.u64 kinds.u64 = refl

abbrev Commutes : {A : Type 0} → (A → A → A) → Type 0
Commutes {A} f = (a b : A) → f a b ≡ f b a

lesser-commutes : Commutes lesser
lesser-commutes a b = grind (arith, ints)

greater-commutes : Commutes greater
greater-commutes a b = grind (arith, ints)

abbrev ok : Val → Outcome Val
ok v = Ok v

-- the number that f gives of the two operands, where there are any
abbrev number_from : (ℤ → ℤ → ℤ) → Option Operands → Outcome Val
number_from f o = and_then (ok_or builtin o) (λ p. Ok (number p.kind (f p.left p.right)))

module _ (f : ℤ → ℤ → ℤ) (s : Commutes f) where
  in_range-swapped : (k : Kind) (x y : ℤ) (b c : Bool)
      → number_from f (if b && c then Some (record { kind = k; left = x; right = y }) else None) ≡ number_from f (if c && b then Some (record { kind = k; left = y; right = x }) else None)
  in_range-swapped k x y true true = ap (λ z. ok (number k z)) (s x y)
  in_range-swapped k x y true false = refl
  in_range-swapped k x y false true = refl
  in_range-swapped k x y false false = refl

  operands-swapped : (o : Option Kind) (x y : ℤ) → number_from f (operands_in o x y) ≡ number_from f (operands_in o y x)
  operands-swapped None x y = refl
  operands-swapped (Some k) x y = in_range-swapped k x y (in_kind k x) (in_kind k y)

  numbers-swapped : (m n : Option Number) → number_from f (both_numbers m n) ≡ number_from f (both_numbers n m)
  numbers-swapped None None = refl
  numbers-swapped None (Some n) = refl
  numbers-swapped (Some m) None = refl
  numbers-swapped (Some m) (Some n) =
      ap (λ o. number_from f (operands_in o m.value n.value)) (kinds_commute m.kind n.kind) ∙ operands-swapped (common_kind n.kind m.kind) m.value n.value

minimum-commutes : (v w : Val) → minimum v w ≡ minimum w v
minimum-commutes v w = numbers-swapped lesser lesser-commutes (number_of v) (number_of w)

maximum-commutes : (v w : Val) → maximum v w ≡ maximum w v
maximum-commutes v w = numbers-swapped greater greater-commutes (number_of v) (number_of w)

-- ---- of two values

-- what f gives of the two values in their common type, where there are any
abbrev on_pair : (Val → Val → Outcome Val) → Option (Val × Val) → Outcome Val
on_pair f o = and_then (ok_or builtin o) (λ p. on_both f p.0 p.1)

module _ (f : Val → Val → Outcome Val) (s : (v w : Val) → f v w ≡ f w v) where
  lifted2-swapped : (vs ws : Vals) → lifted2 f vs ws ≡ lifted2 f ws vs
  lifted2-swapped no_vals no_vals = refl
  lifted2-swapped no_vals (val w ws) = refl
  lifted2-swapped (val v vs) no_vals = refl
  lifted2-swapped (val v vs) (val w ws) = ap₂ followed (s v w) (lifted2-swapped vs ws)

  on_both-swapped : (v w : Val) → on_both f v w ≡ on_both f w v
  on_both-swapped (vector vs) (vector ws) = ap vector_of (lifted2-swapped vs ws)
  on_both-swapped (vector vs) w = s (vector vs) w
  on_both-swapped v (vector ws) = s v (vector ws)
  on_both-swapped v w = s v w

  both-swapped : (o q : Option Val) → on_pair f (both o q) ≡ on_pair f (both q o)
  both-swapped None None = refl
  both-swapped None (Some y) = refl
  both-swapped (Some x) None = refl
  both-swapped (Some x) (Some y) = on_both-swapped x y

  converted-swapped : (v w : Val) (o : Option Ty) → on_pair f (both_in converted converted v w o) ≡ on_pair f (both_in converted converted w v o)
  converted-swapped v w None = refl
  converted-swapped v w (Some t) = both-swapped (converted v t) (converted w t)

  common-swapped : (v w : Val) → on_pair f (in_common converted v w) ≡ on_pair f (in_common converted w v)
  common-swapped v w =
      ap (λ o. on_pair f (both_in converted converted v w o)) (common_types_commute (type_of v) (type_of w)) ∙ converted-swapped v w (common_type (type_of w) (type_of v))

pub symmetric : MinAndMaxAreSymmetric
symmetric v w = record { lesser = common-swapped minimum minimum-commutes v w; greater = common-swapped maximum maximum-commutes v w }
