-- The types of what operators give for literals.
use Rattle.std.proofs.Common.{◌≡◌, ◌∙◌, ℕ, ℤ, pos, Bool, true, false, Option, Some, None, Ok, Err, if◌then◌else◌, refl, sym, ap, nat_lt, not, ◌&&◌, ◌||◌}
use Rattle.wgsl_rules.specs.Conversion.{common_type}
use Rattle.wgsl_rules.specs.Kinds as kinds
use Rattle.wgsl_rules.specs.Kinds.{Kind, in_kind, is_signed, wrap}
use Rattle.wgsl_rules.specs.Refusals.{Refusal, Outcome, and_then}
use Rattle.wgsl_rules.specs.Types as types
use Rattle.wgsl_rules.specs.Types.{Ty}
use Rattle.wgsl_rules.specs.Values.{Val, truth, number, type_of, type_of_kind}
use Rattle.wgsl_rules.specs.declared.syntax.ShaderStage.{ShaderStage}
use Rattle.wgsl_rules.specs.declared.syntax.ShaderStage.TheVariants as stages
use Rattle.wgsl_rules.specs.declared.syntax.UnaryOperator.TheVariants as before
use Rattle.wgsl_rules.specs.declared.syntax.BinaryOperator.{BinaryOperator}
use Rattle.wgsl_rules.specs.declared.syntax.BinaryOperator.TheVariants as between
use Rattle.wgsl_scalar.proofs.lemmas.CommonKinds.{common_types}
use Rattle.wgsl_scalar.specs.Arith.{negation_in, overflows, wrapped_or, sum_in, difference_in, product_in, has_quotient, no_quotient, quotient_in, has_remainder, no_remainder, remainder_in}
use Rattle.wgsl_scalar.specs.Bits.{bits_and_in, bits_or_in, bits_xor_in, complement_in}
use Rattle.wgsl_scalar.specs.Conversions.{common_kind}
use Rattle.wgsl_scalar.specs.Literals.{Number, number_of}
use Rattle.wgsl_scalar.specs.Operands.{Operands, ok_or, both_in, both_numbers, common_operands, operands, with_operands, both_truths, of_truths}
use Rattle.wgsl_scalar.specs.Shifts.{Shift, places_of, shift_of, shift_operands, shifted_left_in, shifted_right_in, scaled_in, shifted_out, shifted_far}
use Rattle.wgsl_value_ops.specs.Laws.{type_or_bool, AnswersHaveTheType, AnswersKeepTheType}
use Rattle.wgsl_value_ops.specs.Literals.{of_literal, of_literals, as_literal}
use Rattle.wgsl_value_ops.proofs.Outcomes.{then-is, some-of}

-- ---- outcomes

-- what a test chooses is of the type, where both are
chosen : (t : Ty) (b : Bool) (o p : Outcome Val) (x : Val) → (o ≡ Ok x → type_of x ≡ t) → (p ≡ Ok x → type_of x ≡ t) → (if b then o else p) ≡ Ok x → type_of x ≡ t
chosen t true o p x f g h = f h
chosen t false o p x f g h = g h

number-typed : (k : Kind) (z : ℤ) (x : Val) → ◌≡◌ {A = Outcome Val} (Ok (number k z)) (Ok x) → type_of x ≡ type_of_kind k
number-typed k z x h = let e : number k z ≡ x = cc in ap type_of (sym e)

truth-typed : (b : Bool) (x : Val) → ◌≡◌ {A = Outcome Val} (Ok (truth b)) (Ok x) → type_of x ≡ types.bool
truth-typed b x h = let e : truth b ≡ x = cc in ap type_of (sym e)

-- ---- operators on numbers of one kind

wrapped-typed : (e : Refusal) (k : Kind) (z : ℤ) (x : Val) → wrapped_or e k z ≡ Ok x → type_of x ≡ type_of_kind k
wrapped-typed e k z x h = chosen (type_of_kind k) (overflows k z) (Err e) (Ok (number k (wrap k z))) x (λ a. cc) (λ a. number-typed k (wrap k z) x a) h

no-quotient-typed : (stage : ShaderStage) (k : Kind) (a : ℤ) (x : Val) → no_quotient stage k a ≡ Ok x → type_of x ≡ type_of_kind k
no-quotient-typed stages.Exec k a x h = number-typed k a x h
no-quotient-typed stages.Const k a x h = cc
no-quotient-typed stages.Override k a x h = cc

quotient-typed : (stage : ShaderStage) (k : Kind) (a b : ℤ) (x : Val) → quotient_in stage k a b ≡ Ok x → type_of x ≡ type_of_kind k
quotient-typed stage k a b x h =
    chosen (type_of_kind k) (has_quotient k a b) _ (no_quotient stage k a) x (λ e. number-typed k _ x e) (λ e. no-quotient-typed stage k a x e) h

no-remainder-typed : (stage : ShaderStage) (k : Kind) (x : Val) → no_remainder stage k ≡ Ok x → type_of x ≡ type_of_kind k
no-remainder-typed stages.Const k x h = cc
no-remainder-typed stages.Exec k x h = number-typed k (pos 0) x h
no-remainder-typed stages.Override k x h = number-typed k (pos 0) x h

remainder-typed : (stage : ShaderStage) (k : Kind) (a b : ℤ) (x : Val) → remainder_in stage k a b ≡ Ok x → type_of x ≡ type_of_kind k
remainder-typed stage k a b x h =
    chosen (type_of_kind k) (has_remainder k a b) _ (no_remainder stage k) x (λ e. number-typed k _ x e) (λ e. no-remainder-typed stage k x e) h

-- ---- shifts

shifted-out-typed : (stage : ShaderStage) (k : Kind) (a : ℤ) (r : ℕ) (x : Val) → shifted_out stage k a r ≡ Ok x → type_of x ≡ type_of_kind k
shifted-out-typed stages.Exec k a r x h = number-typed k _ x h
shifted-out-typed stages.Const k a r x h = cc
shifted-out-typed stages.Override k a r x h = cc

scaled-typed : (stage : ShaderStage) (k : Kind) (a : ℤ) (r : ℕ) (x : Val) → scaled_in stage k a r ≡ Ok x → type_of x ≡ type_of_kind k
scaled-typed stage k a r x h = chosen (type_of_kind k) (in_kind k _) _ (shifted_out stage k a r) x (λ e. number-typed k _ x e) (λ e. shifted-out-typed stage k a r x e) h

left-typed : (stage : ShaderStage) (k : Kind) (a : ℤ) (r : ℕ) (x : Val) → shifted_left_in stage k a r ≡ Ok x → type_of x ≡ type_of_kind k
left-typed stage kinds.abstract_int a r x h =
    chosen types.abstract_int (nat_lt r 64) (scaled_in stage kinds.abstract_int a r) _ x (λ e. scaled-typed stage kinds.abstract_int a r x e) (λ e. number-typed kinds.abstract_int (pos 0) x e) h
left-typed stage kinds.i32 a r x h = scaled-typed stage kinds.i32 a _ x h
left-typed stage kinds.u32 a r x h = scaled-typed stage kinds.u32 a _ x h
left-typed stage kinds.i64 a r x h = scaled-typed stage kinds.i64 a _ x h
left-typed stage kinds.u64 a r x h = scaled-typed stage kinds.u64 a _ x h

far-typed : (stage : ShaderStage) (k : Kind) (a : ℤ) (r : ℕ) (x : Val) → shifted_far stage k a r ≡ Ok x → type_of x ≡ type_of_kind k
far-typed stages.Exec k a r x h = number-typed k _ x h
far-typed stages.Const k a r x h = cc
far-typed stages.Override k a r x h = cc

right-typed : (stage : ShaderStage) (k : Kind) (a : ℤ) (r : ℕ) (x : Val) → shifted_right_in stage k a r ≡ Ok x → type_of x ≡ type_of_kind k
right-typed stage kinds.abstract_int a r x h = number-typed kinds.abstract_int _ x h
right-typed stage kinds.i32 a r x h = chosen types.i32 (nat_lt r 32) _ (shifted_far stage kinds.i32 a r) x (λ e. number-typed kinds.i32 _ x e) (λ e. far-typed stage kinds.i32 a r x e) h
right-typed stage kinds.u32 a r x h = chosen types.u32 (nat_lt r 32) _ (shifted_far stage kinds.u32 a r) x (λ e. number-typed kinds.u32 _ x e) (λ e. far-typed stage kinds.u32 a r x e) h
right-typed stage kinds.i64 a r x h = chosen types.i64 (nat_lt r 64) _ (shifted_far stage kinds.i64 a r) x (λ e. number-typed kinds.i64 _ x e) (λ e. far-typed stage kinds.i64 a r x e) h
right-typed stage kinds.u64 a r x h = chosen types.u64 (nat_lt r 64) _ (shifted_far stage kinds.u64 a r) x (λ e. number-typed kinds.u64 _ x e) (λ e. far-typed stage kinds.u64 a r x e) h

-- ---- the kinds of operands

number-kind : (v : Val) (n : Number) → number_of v ≡ Some n → type_of v ≡ type_of_kind n.kind
number-kind (number k z) n h = let e : k ≡ n.kind = cc in ap type_of_kind e
number-kind v n h = cc

in-kind : (o : Option Kind) (x y : ℤ) (p : Operands) → both_in o x y ≡ Some p → o ≡ Some p.kind
in-kind None x y p h = cc
in-kind (Some k) x y p h = one (in_kind k x && in_kind k y) h
  where
    one : (b : Bool) → (if b then Some (record { kind = k; left = x; right = y }) else None) ≡ Some p → Some k ≡ Some p.kind
    one true h = let e : k ≡ p.kind = cc in ap Some e
    one false h = cc

of-numbers : (m n : Option Number) (v w : Val) (p : Operands) → number_of v ≡ m → number_of w ≡ n → both_numbers m n ≡ Some p
    → common_type (type_of v) (type_of w) ≡ Some (type_of_kind p.kind)
of-numbers None n v w p e f h = cc
of-numbers (Some m) None v w p e f h = cc
of-numbers (Some m) (Some n) v w p e f h =
    rw (number-kind v m e, number-kind w n f, ← common_types m.kind n.kind, in-kind (common_kind m.kind n.kind) m.value n.value p h) refl

common-typed : (op : BinaryOperator) (v w : Val) (p : Operands) → operands op v w ≡ Ok p → common_type (type_of v) (type_of w) ≡ Some (type_of_kind p.kind)
common-typed op v w p h = of-numbers (number_of v) (number_of w) v w p refl refl (some-of _ (common_operands v w) p h)

joined-typed : (op : BinaryOperator) (f : Kind → ℤ → ℤ → Outcome Val) (v w x : Val) → ((k : Kind) (a b : ℤ) (y : Val) → f k a b ≡ Ok y → type_of y ≡ type_of_kind k)
    → with_operands op f v w ≡ Ok x → type_of x ≡ type_or_bool (common_type (type_of v) (type_of w))
joined-typed op f v w x typed h =
    let t = then-is (operands op v w) (λ p. f p.kind p.left p.right) x h in
    typed t.first.kind t.first.left t.first.right x t.rest ∙ sym (ap type_or_bool (common-typed op v w t.first t.is))

bits-typed : (op : BinaryOperator) (g : Bool → Bool → Bool) (f : Kind → ℤ → ℤ → Outcome Val) (v w x : Val) → ((k : Kind) (a b : ℤ) (y : Val) → f k a b ≡ Ok y → type_of y ≡ type_of_kind k)
    → of_truths (λ a b. Ok (truth (g a b))) (both_truths v w) (with_operands op f v w) ≡ Ok x → type_of x ≡ type_or_bool (common_type (type_of v) (type_of w))
bits-typed op g f (truth a) (truth b) x typed h = truth-typed (g a b) x h
bits-typed op g f (truth a) w x typed h = one w h
  where
    one : (w : Val) → of_truths (λ a b. Ok (truth (g a b))) (both_truths (truth a) w) (with_operands op f (truth a) w) ≡ Ok x → type_of x ≡ type_or_bool (common_type types.bool (type_of w))
    one (truth b) h = truth-typed (g a b) x h
    one w h = joined-typed op f (truth a) w x typed h
bits-typed op g f v w x typed h = joined-typed op f v w x typed h

as-literal-typed : (o : Outcome Bool) (x : Val) → as_literal o ≡ Ok x → type_of x ≡ types.bool
as-literal-typed (Ok b) x h = truth-typed b x h
as-literal-typed (Err e) x h = cc

shift-kind : (n : Option Number) (r : Option ℕ) (v : Val) (s : Shift) → number_of v ≡ n → shift_of n r ≡ Some s → type_of v ≡ type_of_kind s.kind
shift-kind None r v s e h = cc
shift-kind (Some n) None v s e h = cc
shift-kind (Some n) (Some r) v s e h = let k : n.kind ≡ s.kind = cc in number-kind v n e ∙ ap type_of_kind k

shift-typed : (op : BinaryOperator) (f : Kind → ℤ → ℕ → Outcome Val) (v w x : Val) → ((k : Kind) (a : ℤ) (r : ℕ) (y : Val) → f k a r ≡ Ok y → type_of y ≡ type_of_kind k)
    → and_then (shift_operands op v w) (λ s. f s.kind s.value s.places) ≡ Ok x → type_of x ≡ type_of v
shift-typed op f v w x typed h =
    let t = then-is (shift_operands op v w) (λ s. f s.kind s.value s.places) x h in
    typed t.first.kind t.first.value t.first.places x t.rest ∙ sym (shift-kind (number_of v) (places_of w) v t.first refl (some-of _ (shift_of (number_of v) (places_of w)) t.first t.is))

logic-or : (v w x : Val) → of_literals between.ShortCircuitOr stages.Const v w ≡ Ok x → type_of x ≡ types.bool
logic-or (truth a) (truth b) x h = truth-typed (a || b) x h
logic-or v w x h = cc

logic-and : (v w x : Val) → of_literals between.ShortCircuitAnd stages.Const v w ≡ Ok x → type_of x ≡ types.bool
logic-and (truth a) (truth b) x h = truth-typed (a && b) x h
logic-and v w x h = cc

pub answer-typed : AnswersHaveTheType
answer-typed between.ShortCircuitOr stage v w x h = logic-or v w x h
answer-typed between.ShortCircuitAnd stage v w x h = logic-and v w x h
answer-typed between.Addition stage v w x h = joined-typed between.Addition sum_in v w x (λ k a b y e. wrapped-typed _ k _ y e) h
answer-typed between.Subtraction stage v w x h = joined-typed between.Subtraction difference_in v w x (λ k a b y e. wrapped-typed _ k _ y e) h
answer-typed between.Multiplication stage v w x h = joined-typed between.Multiplication product_in v w x (λ k a b y e. wrapped-typed _ k _ y e) h
answer-typed between.Division stage v w x h = joined-typed between.Division (quotient_in stage) v w x (quotient-typed stage) h
answer-typed between.Remainder stage v w x h = joined-typed between.Remainder (remainder_in stage) v w x (remainder-typed stage) h
answer-typed between.Equality stage v w x h = as-literal-typed _ x h
answer-typed between.Inequality stage v w x h = as-literal-typed _ x h
answer-typed between.LessThan stage v w x h = as-literal-typed _ x h
answer-typed between.LessThanEqual stage v w x h = as-literal-typed _ x h
answer-typed between.GreaterThan stage v w x h = as-literal-typed _ x h
answer-typed between.GreaterThanEqual stage v w x h = as-literal-typed _ x h
answer-typed between.BitwiseOr stage v w x h = bits-typed between.BitwiseOr (λ a b. a || b) bits_or_in v w x (λ k a b y e. number-typed k _ y e) h
answer-typed between.BitwiseAnd stage v w x h = bits-typed between.BitwiseAnd (λ a b. a && b) bits_and_in v w x (λ k a b y e. number-typed k _ y e) h
answer-typed between.BitwiseXor stage v w x h = joined-typed between.BitwiseXor bits_xor_in v w x (λ k a b y e. number-typed k _ y e) h
answer-typed between.ShiftLeft stage v w x h = shift-typed between.ShiftLeft (shifted_left_in stage) v w x (left-typed stage) h
answer-typed between.ShiftRight stage v w x h = shift-typed between.ShiftRight (shifted_right_in stage) v w x (right-typed stage) h

-- ---- one literal

negation-typed : (e : Refusal) (n : Option Number) (v x : Val) → number_of v ≡ n → and_then (ok_or e n) (λ m. negation_in e m.kind m.value) ≡ Ok x → type_of x ≡ type_of v
negation-typed e None v x h k = cc
negation-typed e (Some n) v x h k = chosen (type_of v) (is_signed n.kind) _ _ x (λ a. number-typed n.kind _ x a ∙ sym (number-kind v n h)) (λ a. cc) k

complement-typed : (e : Refusal) (n : Option Number) (v x : Val) → number_of v ≡ n → and_then (ok_or e n) (λ m. complement_in m.kind m.value) ≡ Ok x → type_of x ≡ type_of v
complement-typed e None v x h k = cc
complement-typed e (Some n) v x h k = number-typed n.kind _ x k ∙ sym (number-kind v n h)

not-typed : (v x : Val) → of_literal before.LogicalNegation v ≡ Ok x → type_of x ≡ type_of v
not-typed (truth b) x h = truth-typed (not b) x h
not-typed v x h = cc

pub one-typed : AnswersKeepTheType
one-typed before.LogicalNegation v x h = not-typed v x h
one-typed before.Negation v x h = negation-typed _ (number_of v) v x refl h
one-typed before.BitwiseComplement v x h = complement-typed _ (number_of v) v x refl h
one-typed before.AddressOf v x h = cc
one-typed before.Indirection v x h = cc
