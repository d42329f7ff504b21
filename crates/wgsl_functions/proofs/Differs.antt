-- A literal differs from the zero of its type where it is true, or a number that is not 0.
use Rattle.std.proofs.Common.{◌≡◌, ℤ, pos, Bool, true, false, not, Option, Some, None, Result, Ok, Err, IsSomeAnd, refl, ap}
use Rattle.std.specs.Ordering.{int_eq}
use Rattle.wgsl_apply.specs.Zeros.{zero_scalar}
use Rattle.wgsl_rules.specs.Kinds as kinds
use Rattle.wgsl_rules.specs.Kinds.{Kind, InKind}
use Rattle.wgsl_rules.specs.Refusals.{Outcome, Refusal}
use Rattle.wgsl_rules.specs.Values.{Val, truth, number, type_of, IsStorable}
use Rattle.wgsl_scalar.specs.Answers.{Answers, refusal_of}
use Rattle.wgsl_scalar.specs.Literals.{literal_of}
use Rattle.wgsl_scalar.specs.Order.{is_unequal}
use Rattle.wgsl_scalar.specs.declared.error.Error.{Error}
use Rattle.wgsl_scalar.specs.declared.literal.LiteralInstance.{LiteralInstance}
use Rattle.wgsl_scalar.specs.declared.literal.LiteralInstance.TheVariants as literals
use Rattle.wgsl_functions.specs.Written.{is_true}

number_differs : (k : Kind) (z : ℤ) → InKind k z → is_unequal (number k z) (number k (pos 0)) ≡ Ok (not (int_eq z (pos 0)))
number_differs kinds.abstract_int z h = rw h
number_differs kinds.i32 z h = rw h
number_differs kinds.u32 z h = rw h
number_differs kinds.i64 z h = rw h
number_differs kinds.u64 z h = rw h

truth_differs : (b : Bool) → is_unequal (truth b) (truth false) ≡ Ok b
truth_differs true = refl
truth_differs false = refl

of_number : (k : Kind) (z : ℤ) (w : Val) → InKind k z → Some w ≡ Some (number k (pos 0)) → is_unequal (number k z) w ≡ Ok (not (int_eq z (pos 0)))
of_number k z w h e = let same : w ≡ number k (pos 0) = cc in rw same (number_differs k z h)

of_truth : (b : Bool) (w : Val) → Some w ≡ Some (truth false) → is_unequal (truth b) w ≡ Ok b
of_truth b w e = let same : w ≡ truth false = cc in rw same (truth_differs b)

pub differs_from_zero : (l : LiteralInstance) (w : Val) → IsStorable (literal_of l) → Some w ≡ zero_scalar (type_of (literal_of l)) → is_unequal (literal_of l) w ≡ Ok (is_true (literal_of l))
differs_from_zero (literals.Bool b) w h e = of_truth b w e
differs_from_zero (literals.AbstractInt z) w h e = of_number kinds.abstract_int z w h e
differs_from_zero (literals.I32 z) w h e = of_number kinds.i32 z w h e
differs_from_zero (literals.U32 n) w h e = of_number kinds.u32 (pos n) w h e
differs_from_zero (literals.I64 z) w h e = of_number kinds.i64 z w h e
differs_from_zero (literals.U64 n) w h e = of_number kinds.u64 (pos n) w h e

refused : (outcome : Outcome Bool) (b : Bool) (r : Option Refusal) → IsSomeAnd r (λ x. outcome ≡ Err x) → outcome ≡ Ok b → ⊥
refused outcome b None h e = h
refused outcome b (Some x) h e = cc

-- what a call answers, where an answer is defined
pub answered : (outcome : Outcome Bool) (b : Bool) (r : Result Bool Error) → Answers (λ a. a) r outcome → outcome ≡ Ok b → r ≡ Ok b
answered outcome b (Ok a) h e = let same : a ≡ b = cc in ap Ok same
answered outcome b (Err x) h e = absurd (refused outcome b (refusal_of x) h e)
