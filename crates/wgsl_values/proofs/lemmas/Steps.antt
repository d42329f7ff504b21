-- Steps into values, and what is put behind them.
use Rattle.std.proofs.Common.{◌≡◌, ℕ, zero, suc, Bool, List, [], ◌∷◌, Option, Some, None, option_map, Ok, Err, refl, sym, ap, ◌∙◌, subst}
use Rattle.wgsl_rules.specs.Values.{Step, member, index, Val, record_of, vector, array_of, matrix, Vals, no_vals, val, item, type_of, IsStorable, AreStorable}
use Rattle.wgsl_rules.specs.Refusals.{component, Outcome, and_then}
use Rattle.wgsl_rules.proofs.lemmas.Paths.{member_named-item, part_at-item, stepped-item}
use Rattle.wgsl_rules.specs.Paths.{parts, member_named, or_refused, part_at, stepped, viewed, path_of, replace_item, with_parts, put_tree, put_viewed}
use Rattle.wgsl_values.specs.Written.{with_part, with_inner_part, with_placed, with_member}

-- ---- parts that are there

-- the part of an index, of what has indexed parts
pub part_at-array : (i : ℕ) (runtime : Bool) (vs : Vals) (x : Val) → Some x ≡ item i vs → part_at i (array_of runtime vs) ≡ Ok (i, x)
part_at-array i runtime vs x e = rw (← e) refl

pub part_at-vector : (i : ℕ) (vs : Vals) (x : Val) → Some x ≡ item i vs → part_at i (vector vs) ≡ Ok (i, x)
part_at-vector i vs x e = rw (← e) refl

pub part_at-matrix : (i : ℕ) (vs : Vals) (x : Val) → Some x ≡ item i vs → part_at i (matrix vs) ≡ Ok (i, x)
part_at-matrix i vs x e = rw (← e) refl

-- ---- storable parts

pub item-storable : (i : ℕ) (vs : Vals) (v : Val) → AreStorable vs → item i vs ≡ Some v → IsStorable v
item-storable i no_vals v h e = absurd (cc)
item-storable zero (val w ws) v h e = let same : w ≡ v = cc in subst IsStorable same h.0
item-storable (suc i) (val w ws) v h e = item-storable i ws v h.1 e

pub parts-storable : (v : Val) → IsStorable v → AreStorable (parts v)
parts-storable (record_of t vs) h = h.1
parts-storable (array_of runtime vs) h = h.2
parts-storable (vector vs) h = h.4
parts-storable (matrix vs) h = h.4
parts-storable v h = tt

-- ---- a part replaced

replace_item-same : (i : ℕ) (f g : Val → Val) (vs : Vals) (v : Val) → item i vs ≡ Some v → f v ≡ g v → replace_item i f vs ≡ replace_item i g vs
replace_item-same i f g no_vals v e h = refl
replace_item-same zero f g (val w ws) v e h = let same : w ≡ v = cc in rw same (ap (λ x. val x ws) h)
replace_item-same (suc i) f g (val w ws) v e h = ap (val w) (replace_item-same i f g ws v e h)

replace_item-own : (i : ℕ) (vs : Vals) (v : Val) → item i vs ≡ Some v → replace_item i (λ _. v) vs ≡ vs
replace_item-own i no_vals v e = refl
replace_item-own zero (val w ws) v e = let same : w ≡ v = cc in rw same refl
replace_item-own (suc i) (val w ws) v e = ap (val w) (replace_item-own i ws v e)

pub with_parts-own : (v : Val) → with_parts v (parts v) ≡ v
with_parts-own (record_of t vs) = refl
with_parts-own (array_of runtime vs) = refl
with_parts-own (vector vs) = refl
with_parts-own (matrix vs) = refl
with_parts-own v = refl

-- a part put into its own place changes nothing
pub with_part-own : (i : ℕ) (v x : Val) → item i (parts v) ≡ Some x → with_part i x v ≡ v
with_part-own i v x e = ap (with_parts v) (replace_item-own i (parts v) x e) ∙ with_parts-own v

-- a part of a part replaced is the part replaced by what it then is
pub with_inner_part-is : (i j : ℕ) (w v x : Val) → item i (parts v) ≡ Some x → with_part i (with_part j w x) v ≡ with_inner_part i j w v
with_inner_part-is i j w v x e = ap (with_parts v) (replace_item-same i (λ _. with_part j w x) (put_tree (j ∷ []) w) (parts v) x e refl)

-- what is put along a path is put into the first part on it
pub put_tree-step : (i : ℕ) (p : List ℕ) (w v x : Val) → item i (parts v) ≡ Some x → put_tree (i ∷ p) w v ≡ with_part i (put_tree p w x) v
put_tree-step i p w v x e = ap (with_parts v) (replace_item-same i (put_tree p w) (λ _. put_tree p w x) (parts v) x e refl)

put-along : (o : Outcome (List ℕ)) (p : ℕ × Val) (w v : Val) → item p.0 (parts v) ≡ Some p.1
    → (elim (and_then o (λ q. Ok (p.0 ∷ q))) [ Ok r ↦ put_tree r w v | Err e ↦ v ])
    ≡ with_part p.0 (elim o [ Ok q ↦ put_tree q w p.1 | Err e ↦ p.1 ]) v
put-along (Ok q) p w v is = ap (with_parts v) (replace_item-same p.0 (put_tree q w) (λ _. put_tree q w p.1) (parts v) p.1 is refl)
put-along (Err e) p w v is = sym (with_part-own p.0 v p.1 is)

-- what is put behind a step is put into the part that the step leads to
pub put-step : (s : Step) (rest : List Step) (w v : Val) (p : ℕ × Val) → stepped s v ≡ Ok p → item p.0 (parts v) ≡ Some p.1
    → put_viewed (s ∷ rest) w v ≡ with_part p.0 (put_viewed rest w p.1) v
put-step s rest w v p e is =
    ap (λ (o : Outcome (ℕ × Val)). elim (and_then o (λ q. and_then (path_of rest q.1) (λ r. Ok (q.0 ∷ r)))) [ Ok r ↦ put_tree r w v | Err f ↦ v ]) e
    ∙ put-along (path_of rest p.1) p w v is

put-named : (o : Option (ℕ × Val)) (n : List ℕ) (rest : List Step) (w v x new : Val) → member_named n v ≡ o → Some x ≡ option_map (λ p. p.1) o
    → new ≡ put_viewed rest w x → with_placed o new v ≡ put_viewed (member n ∷ rest) w v
put-named None n rest w v x new is e h = absurd (cc)
put-named (Some p) n rest w v x new is e h =
    let same : x ≡ p.1 = cc in
    let led : stepped (member n) v ≡ Ok p = rw is refl in
    rw (h, same) (sym (put-step (member n) rest w v p led (member_named-item n v p is)))

pub put-member : (n : List ℕ) (rest : List Step) (w v x new : Val) → Some x ≡ option_map (λ p. p.1) (member_named n v)
    → new ≡ put_viewed rest w x → with_member n new v ≡ put_viewed (member n ∷ rest) w v
put-member n rest w v x new e h = put-named (member_named n v) n rest w v x new refl e h

pub put-part : (i : ℕ) (rest : List Step) (w v x new : Val) → part_at i v ≡ Ok (i, x)
    → new ≡ put_viewed rest w x → with_part i new v ≡ put_viewed (index i ∷ rest) w v
put-part i rest w v x new led h = rw h (sym (put-step (index i) rest w v (i, x) led (part_at-item i v (i, x) led)))

-- a view goes on in the member of the name
pub viewed-member : (n : List ℕ) (rest : List Step) (v x : Val) → Some x ≡ option_map (λ p. p.1) (member_named n v) → viewed (member n ∷ rest) v ≡ viewed rest x
viewed-member n rest v x e = there (member_named n v) e
  where
    there : (o : Option (ℕ × Val)) → Some x ≡ option_map (λ p. p.1) o → and_then (or_refused o (component (type_of v) n)) (λ p. viewed rest p.1) ≡ viewed rest x
    there None f = absurd (cc)
    there (Some p) f = let same : p.1 ≡ x = cc in ap (viewed rest) same

-- and in the part of the index
pub viewed-part : (i : ℕ) (rest : List Step) (v x : Val) → part_at i v ≡ Ok (i, x) → viewed (index i ∷ rest) v ≡ viewed rest x
viewed-part i rest v x e = ap (λ (o : Outcome (ℕ × Val)). and_then o (λ p. viewed rest p.1)) e

-- an answer that follows a step, and the step
then-ok : {A : Type 0} (o : Outcome (ℕ × Val)) (f : Val → Outcome A) (x : A) → and_then o (λ p. f p.1) ≡ Ok x → (p : ℕ × Val) × (o ≡ Ok p) × (f p.1 ≡ Ok x)
then-ok (Ok p) f x e = (p, refl, e)
then-ok (Err r) f x e = absurd (cc)

-- what a view leads to in a storable value is storable
pub viewed-storable : (steps : List Step) (v x : Val) → IsStorable v → viewed steps v ≡ Ok x → IsStorable x
viewed-storable [] v x h e = let same : v ≡ x = cc in subst IsStorable same h
viewed-storable (s ∷ steps) v x h e =
    let k = then-ok (stepped s v) (viewed steps) x e in
    viewed-storable steps k.0.1 x (item-storable k.0.0 (parts v) k.0.1 (parts-storable v h) (stepped-item s v k.0 k.1)) k.2
