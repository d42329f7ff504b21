-- What is put in a place twice.
use Rattle.std.proofs.Common.{◌≡◌, ℕ, zero, suc, List, [], ◌∷◌, Option, Some, None, option_map, option_and_then, Ok, Err, refl, sym, ap, ◌∙◌}
use Rattle.std.specs.Result.{result_ok}
use Rattle.wgsl_rules.proofs.lemmas.Paths.{or_refused-ok, stepped-item}
use Rattle.wgsl_rules.specs.Values.{Step, member, index, Val, record_of, vector, array_of, matrix, Vals, no_vals, val, item}
use Rattle.wgsl_rules.specs.Refusals.{Refusal, Outcome, and_then}
use Rattle.wgsl_rules.specs.Paths.{placed, index_in, or_refused, stepped, path_of, replace_item, put_tree, put_viewed}
use Rattle.wgsl_values.specs.Written.{with_part}
use Rattle.wgsl_values.proofs.lemmas.Steps.{put-step}

pub result_ok-is : (o : Outcome Val) (x : Val) → Some x ≡ result_ok o → o ≡ Ok x
result_ok-is (Ok y) x e = cc
result_ok-is (Err r) x e = absurd (cc)

item-replaced : (i : ℕ) (y x : Val) (vs : Vals) → item i vs ≡ Some x → item i (replace_item i (λ _. y) vs) ≡ Some y
item-replaced i y x no_vals e = absurd (cc)
item-replaced zero y x (val v vs) e = refl
item-replaced (suc i) y x (val v vs) e = item-replaced i y x vs e

replace_item-twice : (i : ℕ) (y z : Val) (vs : Vals) → replace_item i (λ _. z) (replace_item i (λ _. y) vs) ≡ replace_item i (λ _. z) vs
replace_item-twice i y z no_vals = refl
replace_item-twice zero y z (val v vs) = refl
replace_item-twice (suc i) y z (val v vs) = ap (val v) (replace_item-twice i y z vs)

with_part-twice : (i : ℕ) (y z v : Val) → with_part i z (with_part i y v) ≡ with_part i z v
with_part-twice i y z (record_of t vs) = ap (record_of t) (replace_item-twice i y z vs)
with_part-twice i y z (array_of runtime vs) = ap (array_of runtime) (replace_item-twice i y z vs)
with_part-twice i y z (vector vs) = ap vector (replace_item-twice i y z vs)
with_part-twice i y z (matrix vs) = ap matrix (replace_item-twice i y z vs)
with_part-twice i y z v = refl

placed-replaced : (i : ℕ) (y : Val) (vs : Vals) (p : ℕ × Val) → placed i vs ≡ Some p → placed i (replace_item p.0 (λ _. y) vs) ≡ Some (p.0, y)
placed-replaced i y vs p e = there (item i vs) e refl
  where
    there : (o : Option Val) → option_map (λ x. (i, x)) o ≡ Some p → item i vs ≡ o → placed i (replace_item p.0 (λ _. y) vs) ≡ Some (p.0, y)
    there None f is = absurd (cc)
    there (Some x) f is =
        let same : i ≡ p.0 = cc in
        rw (← same, item-replaced i y x vs is) refl

refused-replaced : (i : ℕ) (y : Val) (vs : Vals) (p : ℕ × Val) (r q : Refusal) → or_refused (placed i vs) r ≡ Ok p → or_refused (placed i (replace_item p.0 (λ _. y) vs)) q ≡ Ok (p.0, y)
refused-replaced i y vs p r q e = rw (placed-replaced i y vs p (or_refused-ok (placed i vs) r p e)) refl

named-replaced : (o : Option ℕ) (y : Val) (vs : Vals) (p : ℕ × Val) (r q : Refusal) → or_refused (option_and_then (λ i. placed i vs) o) r ≡ Ok p
    → or_refused (option_and_then (λ i. placed i (replace_item p.0 (λ _. y) vs)) o) q ≡ Ok (p.0, y)
named-replaced None y vs p r q e = absurd (cc)
named-replaced (Some i) y vs p r q e = refused-replaced i y vs p r q e

-- a step leads to what was put where it leads
stepped-replaced : (s : Step) (v y : Val) (p : ℕ × Val) → stepped s v ≡ Ok p → stepped s (with_part p.0 y v) ≡ Ok (p.0, y)
stepped-replaced (member n) (record_of t vs) y p e = named-replaced (index_in n t) y vs p _ _ e
stepped-replaced (member n) v y p e = absurd (cc)
stepped-replaced (index i) (array_of runtime vs) y p e = refused-replaced i y vs p _ _ e
stepped-replaced (index i) (vector vs) y p e = refused-replaced i y vs p _ _ e
stepped-replaced (index i) (matrix vs) y p e = refused-replaced i y vs p _ _ e
stepped-replaced (index i) v y p e = absurd (cc)

put-refused : (s : Step) (steps : List Step) (x v : Val) (r : Refusal) → stepped s v ≡ Err r → put_viewed (s ∷ steps) x v ≡ v
put-refused s steps x v r e = ap (λ (o : Outcome (ℕ × Val)). elim (and_then o (λ p. and_then (path_of steps p.1) (λ q. Ok (p.0 ∷ q)))) [ Ok p ↦ put_tree p x v | Err f ↦ v ]) e

-- the last value that is put somewhere stays there
pub put-twice : (steps : List Step) (w x v : Val) → put_viewed steps w (put_viewed steps x v) ≡ put_viewed steps w v
put-twice [] w x v = refl
put-twice (s ∷ steps) w x v = by (stepped s v) (λ u. put-twice steps w x u) refl
  where
    by : (o : Outcome (ℕ × Val)) → ((u : Val) → put_viewed steps w (put_viewed steps x u) ≡ put_viewed steps w u) → stepped s v ≡ o → put_viewed (s ∷ steps) w (put_viewed (s ∷ steps) x v) ≡ put_viewed (s ∷ steps) w v
    by (Err r) again is = ap (put_viewed (s ∷ steps) w) (put-refused s steps x v r is)
    by (Ok p) again is =
        let y = put_viewed steps x p.1 in
        let led = stepped-replaced s v y p is in
        ap (put_viewed (s ∷ steps) w) (put-step s steps x v p is (stepped-item s v p is))
        ∙ put-step s steps w (with_part p.0 y v) (p.0, y) led (stepped-item s (with_part p.0 y v) (p.0, y) led)
        ∙ with_part-twice p.0 y (put_viewed steps w y) v
        ∙ ap (λ (z : Val). with_part p.0 z v) (again p.1)
        ∙ sym (put-step s steps w v p is (stepped-item s v p is))
