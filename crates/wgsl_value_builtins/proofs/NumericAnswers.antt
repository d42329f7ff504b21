-- What numeric and logical builtin functions answer may be stored.
use Rattle.std.proofs.Common.{◌≡◌, zero, suc, ◌-◌, [], ◌∷◌, ℤ, pos, negsuc, unsigned_abs, ◌+ℤ◌, ◌-ℤ◌, ◌*ℤ◌, Bool, true, false, ◌&&◌, if◌then◌else◌, Some, None, Ok, Err, arith, refl, ap, ◌∙◌, subst, ◌==◌}
use Rattle.std.proofs.lemmas.Int.{ints}
use Rattle.wgsl_value_ops.specs.Lift.{lifted2, vector_of}
use Rattle.wgsl_value_ops.specs.Vectors.{sum_from, total}
use Rattle.wgsl_rules.proofs.lemmas.Converted.{converted-well_formed, storable-well_formed}
use Rattle.wgsl_rules.specs.Conversion.{common_type_of}
use Rattle.wgsl_rules.specs.Converted.{converted}
use Rattle.wgsl_rules.specs.Kinds as kinds
use Rattle.wgsl_rules.specs.Kinds.{Kind, InKind, in_kind, width}
use Rattle.wgsl_rules.specs.Paths.{parts}
use Rattle.wgsl_rules.specs.Refusals.{Outcome, and_then, builtin, add_overflow, sub_overflow, mul_overflow, compwise_binary}
use Rattle.wgsl_rules.specs.Types.{Ty}
use Rattle.wgsl_rules.specs.Values.{Val, number, vector, matrix, Vals, no_vals, val, count, type_of, type_of_kind, AreStorable, IsStorable, IsWellFormed}
use Rattle.wgsl_rules.specs.declared.syntax.BinaryOperator.{BinaryOperator}
use Rattle.wgsl_rules.specs.declared.syntax.BinaryOperator.TheVariants as between
use Rattle.wgsl_rules.specs.declared.syntax.ShaderStage.{ShaderStage}
use Rattle.wgsl_scalar.specs.Arith.{sum, sum_in, product, product_in, difference, difference_in}
use Rattle.wgsl_scalar.specs.Bits.{bit}
use Rattle.wgsl_scalar.specs.Conversions.{converts}
use Rattle.wgsl_scalar.specs.Counts.{magnitude, magnitude_in, sign, sign_of, leading_zeros, leading_zeros_in, one_bits, one_bits_in, trailing_zeros, trailing_zeros_in, bit_length, bit_count, lowest_place, with_number}
use Rattle.wgsl_scalar.specs.Operands.{ok_or, Operands, both_in, common_operands, operands, with_operands}
use Rattle.wgsl_scalar.specs.Order.{lesser, greater, minimum, maximum}
use Rattle.wgsl_values.specs.Matrices.{transposed}
use Rattle.wgsl_values.proofs.Matrices.{transposed_exchanges}
use Rattle.wgsl_scalar.proofs.lemmas.InKind.{wrap-in}
use Rattle.wgsl_values.proofs.lemmas.Views.{mat_view-is, value_of-Mat}
use Rattle.wgsl_values.specs.View.{mat_view, vals_view, value_of}
use Rattle.wgsl_values.specs.declared.instance.Instance.{Instance}
use Rattle.wgsl_values.specs.declared.instance.Instance.TheVariants as instances
use Rattle.wgsl_values.specs.declared.matrix.MatInstance.{MatInstance}
use Rattle.wgsl_value_builtins.proofs.Lifted.{IsLiteralOf, GivesLiteral, GivesLiteral2, number-literal, components-storable, common-storable}
use Rattle.wgsl_value_ops.proofs.Outcomes.{then-is, some-of}
use Rattle.wgsl_value_builtins.specs.Laws.{Answers1, Answers2, Answers3}
use Rattle.wgsl_value_builtins.specs.Lifts.{in_common_type}
use Rattle.wgsl_value_builtins.specs.Numeric.{magnitudes, signs, leading_zero_counts, one_bit_counts, trailing_zero_counts, lesser_of, greater_of, between as between_limits, value_in, clamped_in, clamped, dot_of, dotted, transposition}
use Rattle.wgsl_scalar.proofs.lemmas.Ranges.{lesser_in as lesser-in, greater_in as greater-in}
use Rattle.wgsl_scalar.proofs.lemmas.BitLaws.{few, width_le, bit_count_le, lowest_place_le}
use Rattle.wgsl_value_ops.proofs.Storables.{wrapped-kept as wrapped-number}

-- ---- of one number

-- in each kind f gives a number of the kind
abbrev pub StaysIn : (Kind → ℤ → ℤ) → Type 0
StaysIn f = (k : Kind) (z : ℤ) → InKind k z → InKind k (f k z)

with_number-literal : (f : Kind → ℤ → ℤ) → StaysIn f → (t : Ty) → GivesLiteral (with_number f) t t
with_number-literal f g t (number k z) x h e =
    let same : number k (f k z) ≡ x = cc in
    let l = number-literal k (f k z) (g k z h.storable) in
    let typed : type_of_kind k ≡ t = h.typed in
    subst (λ (u : Ty). IsLiteralOf u x) typed (subst (IsLiteralOf (type_of_kind k)) same l)
with_number-literal f g t v x h e = absurd (cc)

sign-in : StaysIn (λ k z. sign_of z)
sign-in kinds.abstract_int (pos zero) h = grind (arith, ints)
sign-in kinds.abstract_int (pos (suc n)) h = grind (arith, ints)
sign-in kinds.abstract_int (negsuc n) h = grind (arith, ints)
sign-in kinds.i32 (pos zero) h = grind (arith, ints)
sign-in kinds.i32 (pos (suc n)) h = grind (arith, ints)
sign-in kinds.i32 (negsuc n) h = grind (arith, ints)
sign-in kinds.u32 (pos zero) h = grind (arith, ints)
sign-in kinds.u32 (pos (suc n)) h = grind (arith, ints)
sign-in kinds.u32 (negsuc n) h = grind (arith, ints)
sign-in kinds.i64 (pos zero) h = grind (arith, ints)
sign-in kinds.i64 (pos (suc n)) h = grind (arith, ints)
sign-in kinds.i64 (negsuc n) h = grind (arith, ints)
sign-in kinds.u64 (pos zero) h = grind (arith, ints)
sign-in kinds.u64 (pos (suc n)) h = grind (arith, ints)
sign-in kinds.u64 (negsuc n) h = grind (arith, ints)

pub magnitudes-storable : Answers1 magnitudes
magnitudes-storable = components-storable magnitude (λ t. t) (with_number-literal magnitude_in (λ k z h. wrap-in k (pos (unsigned_abs z))))

pub signs-storable : Answers1 signs
signs-storable = components-storable sign (λ t. t) (with_number-literal (λ k z. sign_of z) sign-in)

pub leading-storable : Answers1 leading_zero_counts
leading-storable = components-storable leading_zeros (λ t. t) (with_number-literal leading_zeros_in (λ k z h. few k (width k - bit_length (width k) (bit z)) (omega (arith, width_le k))))

pub ones-storable : Answers1 one_bit_counts
ones-storable = components-storable one_bits (λ t. t) (with_number-literal one_bits_in (λ k z h. few k (bit_count (width k) (bit z)) (omega (arith, width_le k, bit_count_le (width k) z))))

pub trailing-storable : Answers1 trailing_zero_counts
trailing-storable = components-storable trailing_zeros (λ t. t) (with_number-literal trailing_zeros_in (λ k z h. few k (lowest_place (width k) (bit z)) (omega (arith, width_le k, lowest_place_le (width k) (bit z)))))

-- ---- of two numbers

-- operands of one type are numbers of its kind
pub record AreOperandsOf (t : Ty) (p : Operands) : Type 0 where
  pub typed : type_of_kind p.kind ≡ t
  pub left : InKind p.kind p.left
  pub right : InKind p.kind p.right

both_in-operands : (t : Ty) (k : Kind) (y z : ℤ) (p : Operands) (b c : Bool) → type_of_kind k ≡ t → in_kind k y ≡ b → in_kind k z ≡ c
    → (if b && c then Some (record { kind = k; left = y; right = z }) else None) ≡ Some p → AreOperandsOf t p
both_in-operands t k y z p true true h d f e =
    let same : record { kind = k; left = y; right = z } ≡ p = cc in
    subst (AreOperandsOf t) same (record { typed = h; left = d; right = f })
both_in-operands t k y z p true false h d f e = absurd (cc)
both_in-operands t k y z p false c h d f e = absurd (cc)

kind-operands : (t : Ty) (j k : Kind) (y z : ℤ) (p : Operands) (b c : Bool) → type_of_kind j ≡ t → type_of_kind k ≡ t
    → both_in (if b then Some k else (if c then Some j else None)) y z ≡ Some p → AreOperandsOf t p
kind-operands t j k y z p true c g h e = both_in-operands t k y z p (in_kind k y) (in_kind k z) h refl refl e
kind-operands t j k y z p false true g h e = both_in-operands t j y z p (in_kind j y) (in_kind j z) g refl refl e
kind-operands t j k y z p false false g h e = absurd (cc)

pub operands-of : (t : Ty) (v w : Val) (p : Operands) → type_of v ≡ t → type_of w ≡ t → common_operands v w ≡ Some p → AreOperandsOf t p
operands-of t (number j y) (number k z) p g h e = kind-operands t j k y z p (converts j k) (converts k j) g h e
operands-of t v w p g h e = absurd (cc)

chosen-literal : (f : ℤ → ℤ → ℤ) → ((k : Kind) (y z : ℤ) → InKind k y → InKind k z → InKind k (f y z))
    → (t : Ty) → GivesLiteral2 (λ v w. and_then (ok_or builtin (common_operands v w)) (λ p. Ok (number p.kind (f p.left p.right)))) t
chosen-literal f i t v w x g h e =
    let a = then-is (ok_or builtin (common_operands v w)) (λ p. Ok (number p.kind (f p.left p.right))) x e in
    let o = operands-of t v w a.first g h (some-of builtin (common_operands v w) a.first a.is) in
    let p = a.first in
    let same : number p.kind (f p.left p.right) ≡ x = let r = a.rest in cc in
    let l = number-literal p.kind (f p.left p.right) (i p.kind p.left p.right o.left o.right) in
    let typed : type_of_kind p.kind ≡ t = o.typed in
    subst (λ (u : Ty). IsLiteralOf u x) typed (subst (IsLiteralOf (type_of_kind p.kind)) same l)

pub minimum-literal : (t : Ty) → GivesLiteral2 minimum t
minimum-literal = chosen-literal lesser lesser-in

pub maximum-literal : (t : Ty) → GivesLiteral2 maximum t
maximum-literal = chosen-literal greater greater-in

pub lesser-storable : Answers2 lesser_of
lesser-storable = common-storable minimum minimum-literal

pub greater-storable : Answers2 greater_of
greater-storable = common-storable maximum maximum-literal

-- ---- clamp

between-storable : Answers3 between_limits
between-storable e low high x h k l is =
    let a = then-is (greater_of e low) (λ v. lesser_of v high) x is in
    lesser-storable a.first high x (storable-well_formed a.first (greater-storable e low a.first h k a.is)) l a.rest

value_in-well_formed : (t : Ty) (v w : Val) → IsWellFormed v → value_in t v ≡ Ok w → IsWellFormed w
value_in-well_formed t v w h e = converted-well_formed v w t h (some-of builtin (converted v t) w e)

clamped_in-storable : (t : Ty) → Answers3 (clamped_in t)
clamped_in-storable t u v w x h k l e =
    let a = then-is (value_in t u) (λ p. and_then (value_in t v) (λ q. and_then (value_in t w) (λ r. between_limits p q r))) x e in
    let b = then-is (value_in t v) (λ q. and_then (value_in t w) (λ r. between_limits a.first q r)) x a.rest in
    let c = then-is (value_in t w) (λ r. between_limits a.first b.first r) x b.rest in
    between-storable a.first b.first c.first x (value_in-well_formed t u a.first h a.is) (value_in-well_formed t v b.first k b.is) (value_in-well_formed t w c.first l c.is) c.rest

pub clamped-storable : Answers3 clamped
clamped-storable u v w x h k l e =
    let a = then-is (ok_or builtin (common_type_of (type_of u ∷ type_of v ∷ type_of w ∷ []))) (λ t. clamped_in t u v w) x e in
    clamped_in-storable a.first u v w x h k l a.rest

-- ---- dot

-- what an operator gives for two numbers, where f gives what may be stored
pub operands-storable : (op : BinaryOperator) (f : Kind → ℤ → ℤ → Outcome Val) → ((k : Kind) (a b : ℤ) (x : Val) → f k a b ≡ Ok x → IsStorable x)
    → (v w x : Val) → with_operands op f v w ≡ Ok x → IsStorable x
operands-storable op f g v w x e =
    let a = then-is (operands op v w) (λ p. f p.kind p.left p.right) x e in
    let p = a.first in
    g p.kind p.left p.right x a.rest

pub sum-storable : (v w x : Val) → sum v w ≡ Ok x → IsStorable x
sum-storable = operands-storable between.Addition sum_in (λ k a b x e. wrapped-number add_overflow k (a +ℤ b) x e)

pub difference-storable : (v w x : Val) → difference v w ≡ Ok x → IsStorable x
difference-storable = operands-storable between.Subtraction difference_in (λ k a b x e. wrapped-number sub_overflow k (a -ℤ b) x e)

product-storable : (v w x : Val) → product v w ≡ Ok x → IsStorable x
product-storable = operands-storable between.Multiplication product_in (λ k a b x e. wrapped-number mul_overflow k (a *ℤ b) x e)

lifted2-storable : (f : Val → Val → Outcome Val) → ((v w x : Val) → f v w ≡ Ok x → IsStorable x) → (vs ws xs : Vals) → lifted2 f vs ws ≡ Ok xs → AreStorable xs
lifted2-storable f g (val v vs) (val w ws) xs e =
    let a = then-is (f v w) (λ x. and_then (lifted2 f vs ws) (λ us. Ok (val x us))) xs e in
    let b = then-is (lifted2 f vs ws) (λ us. Ok (val a.first us)) xs a.rest in
    let same : val a.first b.first ≡ xs = let r = b.rest in cc in
    subst AreStorable same (g v w a.first a.is, lifted2-storable f g vs ws b.first b.is)
lifted2-storable f g no_vals ws xs e = let same : no_vals ≡ xs = cc in subst AreStorable same tt
lifted2-storable f g (val v vs) no_vals xs e = let same : no_vals ≡ xs = cc in subst AreStorable same tt

sum_from-storable : (v : Val) (ws : Vals) (x : Val) → IsStorable v → sum_from v ws ≡ Ok x → IsStorable x
sum_from-storable v no_vals x h e = let same : v ≡ x = cc in subst IsStorable same h
sum_from-storable v (val w ws) x h e =
    let a = then-is (sum v w) (λ y. sum_from y ws) x e in
    sum_from-storable a.first ws x (sum-storable v w a.first a.is) a.rest

total-storable : (vs : Vals) (x : Val) → AreStorable vs → total vs ≡ Ok x → IsStorable x
total-storable no_vals x h e = let same : number kinds.abstract_int (pos 0) ≡ x = cc in subst IsStorable same (few kinds.abstract_int 0 (omega arith))
total-storable (val v vs) x h e = sum_from-storable v vs x h.0 e

dot-components : (vs ws : Vals) (b : Bool) (x : Val) → and_then (if b then vector_of (lifted2 product vs ws) else Err (compwise_binary (type_of (vector vs)) (type_of (vector ws)))) (λ v. total (parts v)) ≡ Ok x → IsStorable x
dot-components vs ws true x e =
    let a = then-is (vector_of (lifted2 product vs ws)) (λ v. total (parts v)) x e in
    let b = then-is (lifted2 product vs ws) (λ us. Ok (vector us)) a.first a.is in
    let same : vector b.first ≡ a.first = let r = b.rest in cc in
    total-storable b.first x (lifted2-storable product product-storable vs ws b.first b.is) (ap (λ (v : Val). total (parts v)) same ∙ a.rest)
dot-components vs ws false x e = absurd (cc)

dot_of-storable : (stage : ShaderStage) (v w x : Val) → dot_of stage v w ≡ Ok x → IsStorable x
dot_of-storable stage (vector vs) (vector ws) x e = dot-components vs ws (count vs == count ws) x e
dot_of-storable stage v w x e = absurd (cc)

pub dotted-storable : (stage : ShaderStage) → Answers2 (dotted stage)
dotted-storable stage v w x h k e =
    let a = then-is (in_common_type v w) (λ p. dot_of stage p.0 p.1) x e in
    dot_of-storable stage a.first.0 a.first.1 x a.rest

-- ---- transpose

pub transposition-storable : Answers1 transposition
transposition-storable (matrix vs) x h e =
    let same : transposed (matrix vs) ≡ x = cc in
    let t = transposed_exchanges (matrix vs) tt h in
    subst IsStorable same t.storable
transposition-storable v x h e = absurd (cc)

-- of the code's matrix
pub transposed-storable : (v : Instance) (m n : MatInstance) → v ≡ instances.Mat m → IsWellFormed (value_of v) → mat_view n ≡ transposed (mat_view m) → IsStorable (value_of (instances.Mat n))
transposed-storable v m n is h e =
    let k = mat_view-is m in
    let w = rw (is, value_of-Mat, k) at h in
    let t = transposed_exchanges (matrix (vals_view m.columns.items)) tt w in
    rw (value_of-Mat, e, k) t.storable
