-- Quotients cut toward zero, and what they leave.
use Rattle.std.proofs.Common.{false, ◌≡◌, ◌≢◌, ℕ, zero, suc, ◌*◌, ◌%◌, ◌<◌, ℤ, pos, negsuc, neg_ℤ, ◌+ℤ◌, ◌-ℤ◌, ◌*ℤ◌, unsigned_abs, arith, refl, sym, ap, ◌∙◌, inl, inr, subst}
use Rattle.std.specs.Int.RustNames.{int_lt, int_rem}
use borrow.Author.Differences.{up, down, same_in, product_is, sum_is_lem, neg_is}
use Rattle.std.proofs.Math.Nat.{mul-suc}
use Rattle.std.proofs.lemmas.Int.{ints, rem_below, unsigned_abs-mul}
use Rattle.wgsl_scalar.specs.Arith.{cut_quotient, cut_remainder}
use Rattle.wgsl_scalar.specs.Laws.{HasSignOf, Divides}
use Rattle.wgsl_scalar.proofs.lemmas.Ranges.{cut_remainder-is}

whole : (a p q : ℤ) → p ≡ q → a ≡ p +ℤ (a -ℤ q)
whole a p q e = omega (arith, ints)

some_abs : (b : ℤ) → b ≢ pos 0 → 0 < unsigned_abs b
some_abs (pos zero) h = absurd (h refl)
some_abs (pos (suc n)) h = omega arith
some_abs (negsuc n) h = omega arith

not_below : (n : ℕ) → int_lt (pos n) (pos 0) ≡ false
not_below n = grind (arith, ints)

signed_neg : (r a : ℕ) → HasSignOf (neg_ℤ (pos r)) (negsuc a)
signed_neg zero a = inl refl
signed_neg (suc r) a = inr refl

signed : (a b : ℤ) → HasSignOf (int_rem a b) a
signed (pos a) b = inr (not_below (a % unsigned_abs b) ∙ sym (not_below a))
signed (negsuc a) b = signed_neg (suc a % unsigned_abs b) a

pub divides : (a b : ℤ) → b ≢ pos 0 → Divides a b (cut_quotient a b) (cut_remainder a b)
divides a b h = record {
  whole = whole a _ _ refl;
  nearer = subst (λ (r : ℤ). unsigned_abs r < unsigned_abs b) (sym (cut_remainder-is a b)) (rem_below a b (some_abs b h));
  signed = subst (λ (r : ℤ). HasSignOf r a) (sym (cut_remainder-is a b)) (signed a b);
}

-- ---- no other numbers divide

near : (a r s : ℤ) (n : ℕ) → HasSignOf r a → HasSignOf s a → unsigned_abs r < n → unsigned_abs s < n → unsigned_abs (s -ℤ r) < n
near a r s n (inl g) h k l = omega (arith, ints)
near a r s n (inr g) (inl h) k l = omega (arith, ints)
near (pos a) r s n (inr g) (inr h) k l =
    let up_r : int_lt r (pos 0) ≡ false = g ∙ not_below a in
    let up_s : int_lt s (pos 0) ≡ false = h ∙ not_below a in
    omega (arith, ints)
near (negsuc a) r s n (inr g) (inr h) k l = omega (arith, ints)

difference-is : (b q p r s : ℤ) → b *ℤ q +ℤ r ≡ b *ℤ p +ℤ s → b *ℤ (q -ℤ p) ≡ s -ℤ r
difference-is b q p r s e =
    let d = sum_is_lem q (neg_ℤ p) in
    let n = neg_is p in
    let bd = product_is b (q -ℤ p) in
    let bq = product_is b q in
    let bp = product_is b p in
    let d0 = ap (λ x. up b * x) d in
    let d1 = ap (λ x. down b * x) d in
    let n0 = ap (λ x. up b * x) n.0 in
    let n1 = ap (λ x. up b * x) n.1 in
    let n2 = ap (λ x. down b * x) n.0 in
    let n3 = ap (λ x. down b * x) n.1 in
    same_in _ _ (omega (arith, ints))

too_far : (m n : ℕ) → m * suc n < m → ⊥
too_far m n h = omega (arith, mul-suc m n)

none_left : (b d : ℤ) → unsigned_abs (b *ℤ d) < unsigned_abs b → d ≡ pos 0
none_left b (pos zero) h = refl
none_left b (pos (suc n)) h = absurd (too_far (unsigned_abs b) n (subst (λ (x : ℕ). x < unsigned_abs b) (unsigned_abs-mul b (pos (suc n))) h))
none_left b (negsuc n) h = absurd (too_far (unsigned_abs b) n (subst (λ (x : ℕ). x < unsigned_abs b) (unsigned_abs-mul b (negsuc n)) h))

apart : (q p : ℤ) → q -ℤ p ≡ pos 0 → q ≡ p
apart q p e = omega (arith, ints)

left_same : (a x r s : ℤ) → a ≡ x +ℤ r → a ≡ x +ℤ s → r ≡ s
left_same a x r s e f = omega (arith, ints)

same_division : (a b q r p s : ℤ) → Divides a b q r → Divides a b p s → (q ≡ p) × (r ≡ s)
same_division a b q r p s g h =
    let d = difference-is b q p r s (sym g.whole ∙ h.whole) in
    let small = subst (λ (x : ℤ). unsigned_abs x < unsigned_abs b) (sym d) (near a r s (unsigned_abs b) g.signed h.signed g.nearer h.nearer) in
    let same : q ≡ p = apart q p (none_left b (q -ℤ p) small) in
    (same, left_same a (b *ℤ q) r s g.whole (h.whole ∙ ap (λ x. b *ℤ x +ℤ s) (sym same)))

pub divides_alone : (a b q r : ℤ) → b ≢ pos 0 → Divides a b q r → (q ≡ cut_quotient a b) × (r ≡ cut_remainder a b)
divides_alone a b q r h d = same_division a b q r (cut_quotient a b) (cut_remainder a b) d (divides a b h)
