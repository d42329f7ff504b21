-- What operators give for literals that may be stored may be stored.
use Rattle.std.proofs.Common.{◌≡◌, ℕ, ℤ, pos, ◌%◌, ◌+◌, min, max, ◌*ℤ◌, ◌^◌, Bool, true, false, Option, Some, None, Ok, Err, if◌then◌else◌, refl, nat_lt, ◌&&◌, ◌||◌}
use Rattle.wgsl_rules.specs.Kinds as kinds
use Rattle.wgsl_rules.specs.Kinds.{Kind, InKind, in_kind, wrap, width, floor_div}
use Rattle.wgsl_rules.specs.Refusals.{Refusal, Outcome, and_then}
use Rattle.wgsl_rules.specs.Values.{Val, truth, number, IsStorable}
use Rattle.wgsl_rules.specs.declared.syntax.ShaderStage.{ShaderStage}
use Rattle.wgsl_rules.specs.declared.syntax.ShaderStage.TheVariants as stages
use Rattle.wgsl_rules.specs.declared.syntax.BinaryOperator.{BinaryOperator}
use Rattle.wgsl_rules.specs.declared.syntax.BinaryOperator.TheVariants as between
use Rattle.wgsl_scalar.proofs.lemmas.InKind.{wrap-in}
use Rattle.wgsl_scalar.proofs.lemmas.Ranges.{cut_remainder-is, remainder_in_kind, floor_in}
use Rattle.wgsl_scalar.specs.Arith.{cut_quotient, overflows, wrapped_or, sum_in, difference_in, product_in, has_quotient, no_quotient, quotient_in, has_remainder, no_remainder, remainder_in}
use Rattle.wgsl_scalar.specs.Bits.{bit, from_bits, with_bits, bits_and_in, bits_or_in, bits_xor_in}
use Rattle.wgsl_scalar.specs.Conversions.{common_kind}
use Rattle.wgsl_scalar.specs.Literals.{Number, number_of}
use Rattle.wgsl_scalar.specs.Operands.{Operands, both_in, both_numbers, common_operands, operands, with_operands, both_truths, of_truths}
use Rattle.wgsl_scalar.specs.Shifts.{Shift, places_of, shift_of, shift_operands, shifted_left_in, shifted_right_in, scaled_in, shifted_out, shifted_far}
use Rattle.wgsl_value_ops.specs.Laws.{AnswersAreStorable}
use Rattle.wgsl_value_ops.specs.Literals.{of_literals, as_literal}
use Rattle.wgsl_value_ops.proofs.Outcomes.{then-is, some-of}

zero-in : (k : Kind) → InKind k (pos 0)
zero-in kinds.abstract_int = refl
zero-in kinds.i32 = refl
zero-in kinds.u32 = refl
zero-in kinds.i64 = refl
zero-in kinds.u64 = refl

number-kept : (k : Kind) (z : ℤ) (x : Val) → InKind k z → ◌≡◌ {A = Outcome Val} (Ok (number k z)) (Ok x) → IsStorable x
number-kept k z x i h = let e : number k z ≡ x = cc in rw (← e) i

truth-kept : (b : Bool) (x : Val) → ◌≡◌ {A = Outcome Val} (Ok (truth b)) (Ok x) → IsStorable x
truth-kept b x h = let e : truth b ≡ x = cc in rw (← e) tt

picked : (b : Bool) (o p : Outcome Val) (x : Val) → (b ≡ true → o ≡ Ok x → IsStorable x) → (p ≡ Ok x → IsStorable x) → (if b then o else p) ≡ Ok x → IsStorable x
picked true o p x f g h = f refl h
picked false o p x f g h = g h

-- ---- operators on numbers of one kind

abbrev Keeps : (Kind → ℤ → ℤ → Outcome Val) → Type 0
Keeps f = (k : Kind) (a b : ℤ) (x : Val) → InKind k a → f k a b ≡ Ok x → IsStorable x

pub wrapped-kept : (e : Refusal) (k : Kind) (z : ℤ) (x : Val) → wrapped_or e k z ≡ Ok x → IsStorable x
wrapped-kept e k z x h = picked (overflows k z) (Err e) (Ok (number k (wrap k z))) x (λ t a. cc) (λ a. number-kept k (wrap k z) x (wrap-in k z) a) h

no-quotient-kept : (stage : ShaderStage) (k : Kind) (a : ℤ) (x : Val) → InKind k a → no_quotient stage k a ≡ Ok x → IsStorable x
no-quotient-kept stages.Exec k a x i h = number-kept k a x i h
no-quotient-kept stages.Const k a x i h = cc
no-quotient-kept stages.Override k a x i h = cc

quotient-kept : (stage : ShaderStage) → Keeps (quotient_in stage)
quotient-kept stage k a b x i h =
    picked (has_quotient k a b) _ (no_quotient stage k a) x (λ t e. number-kept k _ x (wrap-in k (cut_quotient a b)) e) (λ e. no-quotient-kept stage k a x i e) h

no-remainder-kept : (stage : ShaderStage) (k : Kind) (x : Val) → no_remainder stage k ≡ Ok x → IsStorable x
no-remainder-kept stages.Const k x h = cc
no-remainder-kept stages.Exec k x h = number-kept k (pos 0) x (zero-in k) h
no-remainder-kept stages.Override k x h = number-kept k (pos 0) x (zero-in k) h

remainder-kept : (stage : ShaderStage) → Keeps (remainder_in stage)
remainder-kept stage k a b x i h =
    picked (has_remainder k a b) _ (no_remainder stage k) x (λ t e. number-kept k _ x (rw (cut_remainder-is a b) (remainder_in_kind k a b i)) e) (λ e. no-remainder-kept stage k x e) h

bits-in : (k : Kind) (f : ℕ → ℕ) (x : Val) → ◌≡◌ {A = Outcome Val} (Ok (with_bits k f)) (Ok x) → IsStorable x
bits-in k f x h = number-kept k (wrap k (pos (from_bits (width k) f))) x (wrap-in k (pos (from_bits (width k) f))) h

-- ---- shifts

abbrev KeepsShifted : (Kind → ℤ → ℕ → Outcome Val) → Type 0
KeepsShifted f = (k : Kind) (a : ℤ) (r : ℕ) (x : Val) → InKind k a → f k a r ≡ Ok x → IsStorable x

shifted-out-kept : (stage : ShaderStage) (k : Kind) (a : ℤ) (r : ℕ) (x : Val) → shifted_out stage k a r ≡ Ok x → IsStorable x
shifted-out-kept stages.Exec k a r x h = number-kept k _ x (wrap-in k (a *ℤ pos (2 ^ r))) h
shifted-out-kept stages.Const k a r x h = cc
shifted-out-kept stages.Override k a r x h = cc

scaled-kept : (stage : ShaderStage) (k : Kind) (a : ℤ) (r : ℕ) (x : Val) → scaled_in stage k a r ≡ Ok x → IsStorable x
scaled-kept stage k a r x h = picked (in_kind k (a *ℤ pos (2 ^ r))) _ (shifted_out stage k a r) x (λ t e. number-kept k (a *ℤ pos (2 ^ r)) x t e) (λ e. shifted-out-kept stage k a r x e) h

left-kept : (stage : ShaderStage) → KeepsShifted (shifted_left_in stage)
left-kept stage kinds.abstract_int a r x i h =
    picked (nat_lt r 64) (scaled_in stage kinds.abstract_int a r) _ x (λ t e. scaled-kept stage kinds.abstract_int a r x e) (λ e. number-kept kinds.abstract_int (pos 0) x refl e) h
left-kept stage kinds.i32 a r x i h = scaled-kept stage kinds.i32 a _ x h
left-kept stage kinds.u32 a r x i h = scaled-kept stage kinds.u32 a _ x h
left-kept stage kinds.i64 a r x i h = scaled-kept stage kinds.i64 a _ x h
left-kept stage kinds.u64 a r x i h = scaled-kept stage kinds.u64 a _ x h

floored-kept : (k : Kind) (a : ℤ) (r : ℕ) (x : Val) → InKind k a → ◌≡◌ {A = Outcome Val} (Ok (number k (floor_div a (2 ^ r)))) (Ok x) → IsStorable x
floored-kept k a r x i h = number-kept k (floor_div a (2 ^ r)) x (floor_in k a r i) h

far-kept : (stage : ShaderStage) (k : Kind) (a : ℤ) (r : ℕ) (x : Val) → InKind k a → shifted_far stage k a r ≡ Ok x → IsStorable x
far-kept stages.Exec k a r x i h = floored-kept k a (r % width k) x i h
far-kept stages.Const k a r x i h = cc
far-kept stages.Override k a r x i h = cc

right-kept : (stage : ShaderStage) → KeepsShifted (shifted_right_in stage)
right-kept stage kinds.abstract_int a r x i h = floored-kept kinds.abstract_int a r x i h
right-kept stage kinds.i32 a r x i h = picked (nat_lt r 32) _ (shifted_far stage kinds.i32 a r) x (λ t e. floored-kept kinds.i32 a r x i e) (λ e. far-kept stage kinds.i32 a r x i e) h
right-kept stage kinds.u32 a r x i h = picked (nat_lt r 32) _ (shifted_far stage kinds.u32 a r) x (λ t e. floored-kept kinds.u32 a r x i e) (λ e. far-kept stage kinds.u32 a r x i e) h
right-kept stage kinds.i64 a r x i h = picked (nat_lt r 64) _ (shifted_far stage kinds.i64 a r) x (λ t e. floored-kept kinds.i64 a r x i e) (λ e. far-kept stage kinds.i64 a r x i e) h
right-kept stage kinds.u64 a r x i h = picked (nat_lt r 64) _ (shifted_far stage kinds.u64 a r) x (λ t e. floored-kept kinds.u64 a r x i e) (λ e. far-kept stage kinds.u64 a r x i e) h

-- ---- operands

left-in : (o : Option Kind) (x y : ℤ) (p : Operands) → both_in o x y ≡ Some p → InKind p.kind p.left
left-in None x y p h = cc
left-in (Some k) x y p h = one (in_kind k x) (in_kind k y) refl h
  where
    one : (b c : Bool) → in_kind k x ≡ b → (if b && c then Some (record { kind = k; left = x; right = y }) else None) ≡ Some p → InKind p.kind p.left
    one true true t h = let e : k ≡ p.kind = cc in let f : x ≡ p.left = cc in rw (← e, ← f) t
    one true false t h = cc
    one false c t h = cc

numbers-in : (m n : Option Number) (p : Operands) → both_numbers m n ≡ Some p → InKind p.kind p.left
numbers-in None n p h = cc
numbers-in (Some m) None p h = cc
numbers-in (Some m) (Some n) p h = left-in (common_kind m.kind n.kind) m.value n.value p h

joined-kept : (op : BinaryOperator) (f : Kind → ℤ → ℤ → Outcome Val) (v w x : Val) → Keeps f → with_operands op f v w ≡ Ok x → IsStorable x
joined-kept op f v w x keeps h =
    let t = then-is (operands op v w) (λ p. f p.kind p.left p.right) x h in
    keeps t.first.kind t.first.left t.first.right x (numbers-in (number_of v) (number_of w) t.first (some-of _ (common_operands v w) t.first t.is)) t.rest

bits-kept : (op : BinaryOperator) (g : Bool → Bool → Bool) (f : Kind → ℤ → ℤ → Outcome Val) (o : Option (Bool × Bool)) (v w x : Val) → Keeps f
    → of_truths (λ a b. Ok (truth (g a b))) o (with_operands op f v w) ≡ Ok x → IsStorable x
bits-kept op g f (Some p) v w x keeps h = truth-kept (g p.0 p.1) x h
bits-kept op g f None v w x keeps h = joined-kept op f v w x keeps h

as-literal-kept : (o : Outcome Bool) (x : Val) → as_literal o ≡ Ok x → IsStorable x
as-literal-kept (Ok b) x h = truth-kept b x h
as-literal-kept (Err e) x h = cc

shift-in : (v : Val) (r : Option ℕ) (s : Shift) → IsStorable v → shift_of (number_of v) r ≡ Some s → InKind s.kind s.value
shift-in (number k z) None s i h = cc
shift-in (number k z) (Some r) s i h = let e : k ≡ s.kind = cc in let f : z ≡ s.value = cc in rw (← e, ← f) i
shift-in v r s i h = cc

shift-kept : (op : BinaryOperator) (f : Kind → ℤ → ℕ → Outcome Val) (v w x : Val) → KeepsShifted f → IsStorable v → and_then (shift_operands op v w) (λ s. f s.kind s.value s.places) ≡ Ok x → IsStorable x
shift-kept op f v w x keeps i h =
    let t = then-is (shift_operands op v w) (λ s. f s.kind s.value s.places) x h in
    keeps t.first.kind t.first.value t.first.places x (shift-in v (places_of w) t.first i (some-of _ (shift_of (number_of v) (places_of w)) t.first t.is)) t.rest

either : (v w x : Val) → of_literals between.ShortCircuitOr stages.Const v w ≡ Ok x → IsStorable x
either (truth a) (truth b) x h = truth-kept (a || b) x h
either v w x h = cc

both : (v w x : Val) → of_literals between.ShortCircuitAnd stages.Const v w ≡ Ok x → IsStorable x
both (truth a) (truth b) x h = truth-kept (a && b) x h
both v w x h = cc

pub answer-storable : AnswersAreStorable
answer-storable between.ShortCircuitOr stage v w x i h = either v w x h
answer-storable between.ShortCircuitAnd stage v w x i h = both v w x h
answer-storable between.Addition stage v w x i h = joined-kept between.Addition sum_in v w x (λ k a b y j e. wrapped-kept _ k _ y e) h
answer-storable between.Subtraction stage v w x i h = joined-kept between.Subtraction difference_in v w x (λ k a b y j e. wrapped-kept _ k _ y e) h
answer-storable between.Multiplication stage v w x i h = joined-kept between.Multiplication product_in v w x (λ k a b y j e. wrapped-kept _ k _ y e) h
answer-storable between.Division stage v w x i h = joined-kept between.Division (quotient_in stage) v w x (quotient-kept stage) h
answer-storable between.Remainder stage v w x i h = joined-kept between.Remainder (remainder_in stage) v w x (remainder-kept stage) h
answer-storable between.Equality stage v w x i h = as-literal-kept _ x h
answer-storable between.Inequality stage v w x i h = as-literal-kept _ x h
answer-storable between.LessThan stage v w x i h = as-literal-kept _ x h
answer-storable between.LessThanEqual stage v w x i h = as-literal-kept _ x h
answer-storable between.GreaterThan stage v w x i h = as-literal-kept _ x h
answer-storable between.GreaterThanEqual stage v w x i h = as-literal-kept _ x h
answer-storable between.BitwiseOr stage v w x i h = bits-kept between.BitwiseOr (λ a b. a || b) bits_or_in (both_truths v w) v w x (λ k a b y j e. bits-in k (λ i. max (bit a i) (bit b i)) y e) h
answer-storable between.BitwiseAnd stage v w x i h = bits-kept between.BitwiseAnd (λ a b. a && b) bits_and_in (both_truths v w) v w x (λ k a b y j e. bits-in k (λ i. min (bit a i) (bit b i)) y e) h
answer-storable between.BitwiseXor stage v w x i h = joined-kept between.BitwiseXor bits_xor_in v w x (λ k a b y j e. bits-in k (λ i. (bit a i + bit b i) % 2) y e) h
answer-storable between.ShiftLeft stage v w x i h = shift-kept between.ShiftLeft (shifted_left_in stage) v w x (left-kept stage) i h
answer-storable between.ShiftRight stage v w x i h = shift-kept between.ShiftRight (shifted_right_in stage) v w x (right-kept stage) i h
