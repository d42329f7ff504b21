-- What an operator takes two literals to is what both are in the common type of their types.
use Rattle.std.proofs.Common.{◌≡◌, refl, ap, ◌∙◌, ℤ, Bool, true, false, ◌&&◌, Option, Some, None, IsTrue, if◌then◌else◌}
use Rattle.std.specs.Prelude.{option_map}
use Rattle.wgsl_rules.specs.Converted.{number_in}
use Rattle.wgsl_rules.specs.InCommon.{both}
use Rattle.wgsl_rules.specs.Kinds as kinds
use Rattle.wgsl_rules.specs.Kinds.{Kind, InKind, in_kind}
use Rattle.wgsl_rules.specs.Values.{Val, truth, number}
use Rattle.wgsl_scalar.specs.Laws.{OperandsAreInTheirCommonType, operand_values}
use Rattle.wgsl_scalar.specs.Operands.{both_in}

-- two numbers of a kind, where the tests that they are of it hold
abbrev taken_if : Kind → ℤ → ℤ → Bool → Bool → Option (Val × Val)
taken_if k x y a b = option_map operand_values (if a && b then Some (record { kind = k; left = x; right = y }) else None)

abbrev one_if : Kind → ℤ → Bool → Option Val
one_if k x a = if a then Some (number k x) else None

each_if : (k : Kind) (x y : ℤ) (a b : Bool) → taken_if k x y a b ≡ both (one_if k x a) (one_if k y b)
each_if k x y true true = refl
each_if k x y true false = refl
each_if k x y false true = refl
each_if k x y false false = refl

is_one : (k : Kind) (x : ℤ) (a : Bool) → IsTrue a → one_if k x a ≡ Some (number k x)
is_one k x true h = refl
is_one k x false h = cc

each_in : (k : Kind) (x y : ℤ) → option_map operand_values (both_in (Some k) x y) ≡ both (number_in k x) (number_in k y)
each_in k x y = each_if k x y (in_kind k x) (in_kind k y)

in_own : (k : Kind) (x : ℤ) → InKind k x → number_in k x ≡ Some (number k x)
in_own k x h = is_one k x (in_kind k x) h

left_converts : (k : Kind) (x y : ℤ) → InKind k y → option_map operand_values (both_in (Some k) x y) ≡ both (number_in k x) (Some (number k y))
left_converts k x y h = each_in k x y ∙ ap (both (number_in k x)) (in_own k y h)

right_converts : (k : Kind) (x y : ℤ) → InKind k x → option_map operand_values (both_in (Some k) x y) ≡ both (Some (number k x)) (number_in k y)
right_converts k x y h = each_in k x y ∙ ap (λ o. both o (number_in k y)) (in_own k x h)

both_stay : (k : Kind) (x y : ℤ) → InKind k x → InKind k y → option_map operand_values (both_in (Some k) x y) ≡ Some (number k x, number k y)
both_stay k x y g h = left_converts k x y h ∙ ap (λ o. both o (Some (number k y))) (in_own k x g)

pub in_common_type : OperandsAreInTheirCommonType
in_common_type (truth a) (truth b) _ _ g h = refl
in_common_type (truth a) (number kinds.abstract_int y) _ _ g h = refl
in_common_type (number kinds.abstract_int x) (truth b) _ _ g h = refl
in_common_type (truth a) (number kinds.i32 y) _ _ g h = refl
in_common_type (number kinds.i32 x) (truth b) _ _ g h = refl
in_common_type (truth a) (number kinds.u32 y) _ _ g h = refl
in_common_type (number kinds.u32 x) (truth b) _ _ g h = refl
in_common_type (truth a) (number kinds.i64 y) _ _ g h = refl
in_common_type (number kinds.i64 x) (truth b) _ _ g h = refl
in_common_type (truth a) (number kinds.u64 y) _ _ g h = refl
in_common_type (number kinds.u64 x) (truth b) _ _ g h = refl
in_common_type (number kinds.abstract_int x) (number kinds.abstract_int y) _ _ g h = both_stay kinds.abstract_int x y g h
in_common_type (number kinds.abstract_int x) (number kinds.i32 y) _ _ g h = left_converts kinds.i32 x y h
in_common_type (number kinds.abstract_int x) (number kinds.u32 y) _ _ g h = left_converts kinds.u32 x y h
in_common_type (number kinds.abstract_int x) (number kinds.i64 y) _ _ g h = refl
in_common_type (number kinds.abstract_int x) (number kinds.u64 y) _ _ g h = refl
in_common_type (number kinds.i32 x) (number kinds.abstract_int y) _ _ g h = right_converts kinds.i32 x y g
in_common_type (number kinds.i32 x) (number kinds.i32 y) _ _ g h = both_stay kinds.i32 x y g h
in_common_type (number kinds.i32 x) (number kinds.u32 y) _ _ g h = refl
in_common_type (number kinds.i32 x) (number kinds.i64 y) _ _ g h = refl
in_common_type (number kinds.i32 x) (number kinds.u64 y) _ _ g h = refl
in_common_type (number kinds.u32 x) (number kinds.abstract_int y) _ _ g h = right_converts kinds.u32 x y g
in_common_type (number kinds.u32 x) (number kinds.i32 y) _ _ g h = refl
in_common_type (number kinds.u32 x) (number kinds.u32 y) _ _ g h = both_stay kinds.u32 x y g h
in_common_type (number kinds.u32 x) (number kinds.i64 y) _ _ g h = refl
in_common_type (number kinds.u32 x) (number kinds.u64 y) _ _ g h = refl
in_common_type (number kinds.i64 x) (number kinds.abstract_int y) _ _ g h = refl
in_common_type (number kinds.i64 x) (number kinds.i32 y) _ _ g h = refl
in_common_type (number kinds.i64 x) (number kinds.u32 y) _ _ g h = refl
in_common_type (number kinds.i64 x) (number kinds.i64 y) _ _ g h = both_stay kinds.i64 x y g h
in_common_type (number kinds.i64 x) (number kinds.u64 y) _ _ g h = refl
in_common_type (number kinds.u64 x) (number kinds.abstract_int y) _ _ g h = refl
in_common_type (number kinds.u64 x) (number kinds.i32 y) _ _ g h = refl
in_common_type (number kinds.u64 x) (number kinds.u32 y) _ _ g h = refl
in_common_type (number kinds.u64 x) (number kinds.i64 y) _ _ g h = refl
in_common_type (number kinds.u64 x) (number kinds.u64 y) _ _ g h = both_stay kinds.u64 x y g h
in_common_type (number k x) w _ m g h = absurd m
in_common_type (truth a) w _ m g h = absurd m
in_common_type v w l _ g h = absurd l
