-- Lists of the parts of values, and walks along two of them.
use Rattle.std.proofs.Common.{◌≡◌, ℕ, zero, suc, ◌+◌, ◌≤◌, List, length, Some, Bool, true, false, ◌&&◌, refl, sym, ap, ◌∙◌, arith, add-one}
use Rattle.wgsl_rules.specs.Values.{Val, record_of, array_of, vector, matrix, Vals, no_vals, val, count, item}
use Rattle.wgsl_rules.specs.Paths.{parts, same_paths, all_same_paths}
use Rattle.wgsl_values.specs.View.{vals_view}
use Rattle.wgsl_values.specs.declared.instance.Instance.{Instance}
use Rattle.wgsl_values.proofs.lemmas.Views.{count-vals_view}

-- ---- lists of values

pub vals_counted : (vs : List Instance) → length vs ≡ count (vals_view vs)
vals_counted vs = sym (count-vals_view vs)

-- ---- the values behind the first

abbrev pub skipped : ℕ → Vals → Vals
skipped zero vs = vs
skipped (suc i) no_vals = no_vals
skipped (suc i) (val v vs) = skipped i vs

pub skipped-item : (i : ℕ) (vs : Vals) (x : Val) → item i vs ≡ Some x → skipped i vs ≡ val x (skipped (suc i) vs)
skipped-item i no_vals x e = absurd (cc)
skipped-item zero (val v vs) x e = let same : v ≡ x = cc in ap (λ u. val u vs) same
skipped-item (suc i) (val v vs) x e = skipped-item i vs x e

pub skipped-all : (i : ℕ) (vs : Vals) → count vs ≤ i → skipped i vs ≡ no_vals
skipped-all zero no_vals h = refl
skipped-all (suc i) no_vals h = refl
skipped-all zero (val v vs) h = absurd (omega arith)
skipped-all (suc i) (val v vs) h = skipped-all i vs (omega arith)

-- ---- the same paths

pub same_paths-parts : (v w : Val) → same_paths v w ≡ all_same_paths (parts v) (parts w)
same_paths-parts (record_of t vs) w = refl
same_paths-parts (array_of runtime vs) w = refl
same_paths-parts (vector vs) w = refl
same_paths-parts (matrix vs) w = refl
same_paths-parts v w = refl

pub other-counts : (vs ws : Vals) → (count vs ≡ count ws → ⊥) → all_same_paths vs ws ≡ false
other-counts no_vals no_vals h = absurd (h refl)
other-counts no_vals (val w ws) h = refl
other-counts (val v vs) no_vals h = refl
other-counts (val v vs) (val w ws) h = rw (other-counts vs ws (λ e. h (ap suc e))) (by (same_paths v w))
  where
    by : (b : Bool) → (b && false) ≡ false
    by true = refl
    by false = refl

-- two values are compared as the rests of their parts are
abbrev pub RestsTell : ℕ → Val → Val → Type 0
RestsTell i v w = same_paths v w ≡ all_same_paths (skipped i (parts v)) (skipped i (parts w))

same-here : (i : ℕ) (v w x y : Val) → RestsTell i v w → item i (parts v) ≡ Some x → item i (parts w) ≡ Some y
    → same_paths v w ≡ (same_paths x y && all_same_paths (skipped (suc i) (parts v)) (skipped (suc i) (parts w)))
same-here i v w x y r e f = r ∙ rw (skipped-item i (parts v) x e, skipped-item i (parts w) y f) refl

pub other-count : (v w : Val) (m n : ℕ) → m ≡ count (parts v) → n ≡ count (parts w) → (m ≡ n → ⊥) → false ≡ same_paths v w
other-count v w m n e f h = sym (same_paths-parts v w ∙ other-counts (parts v) (parts w) (λ k. h (e ∙ k ∙ sym f)))

pub other-part : (i : ℕ) (v w x y : Val) → RestsTell i v w → item i (parts v) ≡ Some x → item i (parts w) ≡ Some y → false ≡ same_paths x y → false ≡ same_paths v w
other-part i v w x y r e f h = rw (same-here i v w x y r e f, ← h) refl

pub same-part : (i : ℕ) (v w x y : Val) → RestsTell i v w → item i (parts v) ≡ Some x → item i (parts w) ≡ Some y → true ≡ same_paths x y → RestsTell (i + 1) v w
same-part i v w x y r e f h = rw (add-one, same-here i v w x y r e f, ← h) refl

pub same-at-end : (i : ℕ) (v w : Val) → RestsTell i v w → count (parts v) ≡ count (parts w) → count (parts v) ≤ i → true ≡ same_paths v w
same-at-end i v w r e h = rw (r, skipped-all i (parts v) h, skipped-all i (parts w) (omega arith)) refl
