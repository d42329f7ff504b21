-- The sum of the components of a vector, from the left.
use Rattle.std.proofs.Common.{◌≡◌, ◌∙◌, ℕ, zero, suc, ◌+◌, ◌≤◌, List, [], ◌∷◌, length, drop, Option, Some, None, Ok, Err, refl, ap, add-one}
use Rattle.std.specs.Prelude.{IsSomeAnd}
use Rattle.std.proofs.lemmas.List.{drop_all}
use Rattle.wgsl_rules.specs.Refusals.{Refusal, and_then}
use Rattle.wgsl_rules.specs.Values.{Val, Vals, item}
use Rattle.wgsl_scalar.specs.Arith.{sum}
use Rattle.wgsl_values.specs.View.{value_of, vals_view}
use Rattle.wgsl_values.specs.declared.instance.Instance.{Instance}
use Rattle.wgsl_value_ops.specs.Vectors.{sum_from, total}

-- x is the sum of the components below i
pub record IsSum (vs : List Instance) (i : ℕ) (x : Val) : Type 0 where
  pub whole : total (vals_view vs) ≡ sum_from x (vals_view (drop i vs))

pub starts : (vs : List Instance) (x : Val) → Some x ≡ item 0 (vals_view vs) → IsSum vs 1 x
starts [] x h = cc
starts (v ∷ vs) x h = record { whole = let e : x ≡ value_of v = cc in rw e refl }

next : (vs : List Instance) (i : ℕ) (x y : Val) → Some y ≡ item i (vals_view vs) → sum_from x (vals_view (drop i vs)) ≡ and_then (sum x y) (λ z. sum_from z (vals_view (drop (suc i) vs)))
next [] i x y h = cc
next (v ∷ vs) zero x y h = let e : y ≡ value_of v = cc in rw e refl
next (v ∷ vs) (suc i) x y h = next vs i x y h

pub sums_on : (vs : List Instance) (i : ℕ) (x y z : Val) → IsSum vs i x → Some y ≡ item i (vals_view vs) → sum x y ≡ Ok z → IsSum vs (i + 1) z
sums_on vs i x y z s h e = record { whole = rw add-one (s.whole ∙ next vs i x y h ∙ ap (λ o. and_then o (λ z. sum_from z (vals_view (drop (suc i) vs)))) e) }

pub sum_refused : (vs : List Instance) (ws : Vals) (i : ℕ) (x y : Val) (o : Option Refusal) → vals_view vs ≡ ws → IsSum vs i x → Some y ≡ item i (vals_view vs) → IsSomeAnd o (λ r. sum x y ≡ Err r)
    → IsSomeAnd o (λ r. total ws ≡ Err r)
sum_refused vs ws i x y None w s h e = absurd e
sum_refused vs ws i x y (Some r) w s h e = rw (← w) (s.whole ∙ next vs i x y h ∙ ap (λ o. and_then o (λ z. sum_from z (vals_view (drop (suc i) vs)))) e)

pub sum_ends : (vs : List Instance) (ws : Vals) (i : ℕ) (x : Val) → vals_view vs ≡ ws → length vs ≤ i → IsSum vs i x → total ws ≡ Ok x
sum_ends vs ws i x w end s = rw (← w) (s.whole ∙ ap (λ l. sum_from x (vals_view l)) (drop_all i vs end))
