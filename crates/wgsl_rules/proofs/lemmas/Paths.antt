-- Where views lead, what fits a place, and what is put there.
use Rattle.std.proofs.Common.{◌≡◌, ◌∙◌, ℕ, zero, suc, List, [], ◌∷◌, ◌++◌, Bool, true, ◌&&◌, Option, Some, None, is_some, option_map, option_and_then, Ok, Err, IsSomeAnd, IfOk, MatchResult, Decides, refl, sym, ap, subst}
use Rattle.std.proofs.lemmas.Bool.{false≢true}
use Rattle.std.proofs.lemmas.Bool.Decides.{Decides-and, Decides-like}
use Rattle.wgsl_rules.specs.Equal.{same-Decides}
use Rattle.wgsl_rules.specs.Laws.{Begins, Apart}
use Rattle.wgsl_rules.specs.Same.{same}
use Rattle.wgsl_rules.specs.Values.{Step, member, index, Val, record_of, array_of, vector, matrix, Vals, no_vals, val, count, item, type_of}
use Rattle.wgsl_rules.specs.Refusals.{Refusal, component, out_of_bounds, Outcome, and_then}
use Rattle.wgsl_rules.specs.Paths.{parts, value_at, index_in, placed, member_named, or_refused, part_at, stepped, path_of, viewed, replace_item, with_parts, put_tree, FitsPlace, has_none, same_paths, all_same_paths, fits}

-- ---- the part that a step leads to

pub or_refused-ok : {A : Type 0} (o : Option A) (f : Refusal) (x : A) → or_refused o f ≡ Ok x → o ≡ Some x
or_refused-ok None f x e = absurd (cc)
or_refused-ok (Some y) f x e = cc

-- a position, and the part that stands there
pub placed-both : (i : ℕ) (vs : Vals) (p : ℕ × Val) → placed i vs ≡ Some p → (i ≡ p.0) × (item i vs ≡ Some p.1)
placed-both i vs p e = there (item i vs) refl e
  where
    there : (o : Option Val) → item i vs ≡ o → option_map (λ x. (i, x)) o ≡ Some p → (i ≡ p.0) × (item i vs ≡ Some p.1)
    there None is f = absurd (cc)
    there (Some x) is f = let same : (i, x) ≡ p = cc in (ap (λ (q : ℕ × Val). q.0) same, is ∙ ap (λ (q : ℕ × Val). Some q.1) same)

pub placed-item : (i : ℕ) (vs : Vals) (p : ℕ × Val) → placed i vs ≡ Some p → item p.0 vs ≡ Some p.1
placed-item i vs p e = let k = placed-both i vs p e in rw k.0 at k.1

-- the position of a name, and the part that stands there
pub named-both : (o : Option ℕ) (vs : Vals) (p : ℕ × Val) → option_and_then (λ i. placed i vs) o ≡ Some p → (o ≡ Some p.0) × (item p.0 vs ≡ Some p.1)
named-both None vs p e = absurd (cc)
named-both (Some i) vs p e =
    let k = placed-both i vs p e in
    (ap (λ (j : ℕ). let o : Option ℕ = Some j in o) k.0, rw k.0 at k.1)

-- the member of a name is the part at its position
pub member_named-item : (n : List ℕ) (v : Val) (p : ℕ × Val) → member_named n v ≡ Some p → item p.0 (parts v) ≡ Some p.1
member_named-item n (record_of t vs) p e = (named-both (index_in n t) vs p e).1
member_named-item n v p e = absurd (cc)

pub part_at-item : (i : ℕ) (v : Val) (p : ℕ × Val) → part_at i v ≡ Ok p → item p.0 (parts v) ≡ Some p.1
part_at-item i (array_of runtime vs) p e = placed-item i vs p (or_refused-ok (placed i vs) (out_of_bounds i (type_of (array_of runtime vs)) (count vs)) p e)
part_at-item i (vector vs) p e = placed-item i vs p (or_refused-ok (placed i vs) (out_of_bounds i (type_of (vector vs)) (count vs)) p e)
part_at-item i (matrix vs) p e = placed-item i vs p (or_refused-ok (placed i vs) (out_of_bounds i (type_of (matrix vs)) (count vs)) p e)
part_at-item i v p e = absurd (cc)

-- a step leads to the part at its position
pub stepped-item : (s : Step) (v : Val) (p : ℕ × Val) → stepped s v ≡ Ok p → item p.0 (parts v) ≡ Some p.1
stepped-item (member n) v p e = member_named-item n v p (or_refused-ok (member_named n v) (component (type_of v) n) p e)
stepped-item (index i) v p e = part_at-item i v p e

-- ---- the value that a view leads to

-- an answer is the value at the path, and both are refused alike
abbrev Leads : Outcome (List ℕ) → Outcome Val → Val → Type 0
Leads o r v = MatchResult o (λ p. IsSomeAnd (value_at p v) (λ x. r ≡ Ok x)) (λ e. r ≡ Err e)

leads-on : (o : Outcome (List ℕ)) (r : Outcome Val) (i : ℕ) (x v : Val) → item i (parts v) ≡ Some x → Leads o r x → Leads (and_then o (λ q. Ok (i ∷ q))) r v
leads-on (Ok q) r i x v is h = subst (λ (o : Option Val). IsSomeAnd (option_and_then (value_at q) o) (λ y. r ≡ Ok y)) (sym is) h
leads-on (Err e) r i x v is h = h

pub view-leads : (steps : List Step) (v : Val) → Leads (path_of steps v) (viewed steps v) v
view-leads [] v = refl
view-leads (s ∷ steps) v = by (stepped s v) refl (λ x. view-leads steps x)
  where
    by : (o : Outcome (ℕ × Val)) → stepped s v ≡ o → ((x : Val) → Leads (path_of steps x) (viewed steps x) x)
        → Leads (and_then o (λ p. and_then (path_of steps p.1) (λ q. Ok (p.0 ∷ q)))) (and_then o (λ p. viewed steps p.1)) v
    by (Ok p) is f = leads-on (path_of steps p.1) (viewed steps p.1) p.0 p.1 v (stepped-item s v p is) (f p.1)
    by (Err e) is f = refl

-- ---- values with the same paths

abbrev SamePaths : Val → Val → Type 0
SamePaths v w = (p : List ℕ) → is_some (value_at p v) ≡ is_some (value_at p w)

abbrev is_below : List ℕ → ℕ → Vals → Bool
is_below p i vs = is_some (option_and_then (value_at p) (item i vs))

abbrev SameParts : Vals → Vals → Type 0
SameParts vs ws = (i : ℕ) (p : List ℕ) → is_below p i vs ≡ is_below p i ws

from_parts : (v w : Val) → SameParts (parts v) (parts w) → SamePaths v w
from_parts v w h [] = refl
from_parts v w h (i ∷ p) = h i p

in_parts : (v w : Val) → Decides (same_paths v w) (SameParts (parts v) (parts w)) → Decides (same_paths v w) (SamePaths v w)
in_parts v w d = Decides-like (same_paths v w) (from_parts v w) (λ h i p. h (i ∷ p)) d

no_parts-Decides : (ws : Vals) → Decides (has_none ws) (SameParts no_vals ws)
no_parts-Decides no_vals = (λ h i p. refl, λ h. refl)
no_parts-Decides (val w ws) = (λ h. absurd (false≢true h), λ h. h zero [])

from_both : (v w : Val) (vs ws : Vals) → SamePaths v w × SameParts vs ws → SameParts (val v vs) (val w ws)
from_both v w vs ws h zero p = h.0 p
from_both v w vs ws h (suc i) p = h.1 i p

to_both : (v w : Val) (vs ws : Vals) → SameParts (val v vs) (val w ws) → SamePaths v w × SameParts vs ws
to_both v w vs ws h = (λ p. h zero p, λ i p. h (suc i) p)

mutual
  paths-Decides : (v w : Val) → Decides (same_paths v w) (SamePaths v w)
  paths-Decides (record_of t vs) w = in_parts (record_of t vs) w (parts-Decides vs (parts w))
  paths-Decides (array_of runtime vs) w = in_parts (array_of runtime vs) w (parts-Decides vs (parts w))
  paths-Decides (vector vs) w = in_parts (vector vs) w (parts-Decides vs (parts w))
  paths-Decides (matrix vs) w = in_parts (matrix vs) w (parts-Decides vs (parts w))
  paths-Decides v w = in_parts v w (no_parts-Decides (parts w))

  parts-Decides : (vs ws : Vals) → Decides (all_same_paths vs ws) (SameParts vs ws)
  parts-Decides no_vals ws = no_parts-Decides ws
  parts-Decides (val v vs) no_vals = (λ h. absurd (false≢true h), λ h. sym (h zero []))
  parts-Decides (val v vs) (val w ws) =
      Decides-like (same_paths v w && all_same_paths vs ws) (from_both v w vs ws) (to_both v w vs ws)
      (Decides-and (same_paths v w) (all_same_paths vs ws) (paths-Decides v w) (parts-Decides vs ws))

pub fits-Decides : (w v : Val) → Decides (fits w v) (FitsPlace w v)
fits-Decides w v = Decides-and (same (type_of w) (type_of v)) (same_paths w v) (same-Decides (type_of w) (type_of v)) (paths-Decides w v)

-- ---- what is put at a path

pub parts-replaced : (i : ℕ) (f : Val → Val) (v : Val) → parts (with_parts v (replace_item i f (parts v))) ≡ replace_item i f (parts v)
parts-replaced i f (record_of t vs) = refl
parts-replaced i f (array_of runtime vs) = refl
parts-replaced i f (vector vs) = refl
parts-replaced i f (matrix vs) = refl
parts-replaced i f v = refl

item-replaced : (i : ℕ) (f : Val → Val) (vs : Vals) → item i (replace_item i f vs) ≡ option_map f (item i vs)
item-replaced i f no_vals = refl
item-replaced zero f (val v vs) = refl
item-replaced (suc i) f (val v vs) = item-replaced i f vs

held-below : (p : List ℕ) (w : Val) (o : Option Val) → ((x : Val) → is_some (value_at p x) ≡ true → value_at p (put_tree p w x) ≡ Some w)
    → is_some (option_and_then (value_at p) o) ≡ true → option_and_then (value_at p) (option_map (put_tree p w) o) ≡ Some w
held-below p w None f h = absurd (false≢true h)
held-below p w (Some x) f h = f x h

pub put-held : (p : List ℕ) (w v : Val) → is_some (value_at p v) ≡ true → value_at p (put_tree p w v) ≡ Some w
put-held [] w v h = refl
put-held (i ∷ p) w v h =
    ap (λ (vs : Vals). option_and_then (value_at p) (item i vs)) (parts-replaced i (put_tree p w) v)
    ∙ ap (option_and_then (value_at p)) (item-replaced i (put_tree p w) (parts v))
    ∙ held-below p w (item i (parts v)) (λ x. put-held p w x) h

-- what is seen of an item stays, where another is replaced or the replacement does not show
item-seen : (i j : ℕ) (f : Val → Val) (g : Val → Option Val) (vs : Vals) → (i ≡ j → (x : Val) → g (f x) ≡ g x)
    → option_and_then g (item j (replace_item i f vs)) ≡ option_and_then g (item j vs)
item-seen i j f g no_vals k = refl
item-seen zero zero f g (val v vs) k = k refl v
item-seen zero (suc j) f g (val v vs) k = refl
item-seen (suc i) zero f g (val v vs) k = refl
item-seen (suc i) (suc j) f g (val v vs) k = item-seen i j f g vs (λ e. k (ap suc e))

begins-on : (i j : ℕ) (p q : List ℕ) → i ≡ j → Begins p q → Begins (i ∷ p) (j ∷ q)
begins-on i j p q e b = (b.0, ap (λ k. k ∷ (p ++ b.0)) e ∙ ap (λ r. j ∷ r) b.1)

pub apart-on : (i j : ℕ) (p q : List ℕ) → Apart (i ∷ p) (j ∷ q) → i ≡ j → Apart p q
apart-on i j p q h e = (λ b. h.0 (begins-on i j p q e b), λ b. h.1 (begins-on j i q p (sym e) b))

pub put-apart : (p q : List ℕ) (w v : Val) → Apart p q → value_at q (put_tree p w v) ≡ value_at q v
put-apart [] q w v h = absurd (h.0 (q, refl))
put-apart (i ∷ p) [] w v h = absurd (h.1 (i ∷ p, refl))
put-apart (i ∷ p) (j ∷ q) w v h =
    ap (λ (vs : Vals). option_and_then (value_at q) (item j vs)) (parts-replaced i (put_tree p w) v)
    ∙ item-seen i j (put_tree p w) (value_at q) (parts v) (λ e x. put-apart p q w x (apart-on i j p q h e))

is_there : (o : Option Val) (P : Val → Type 0) → IsSomeAnd o P → is_some o ≡ true
is_there None P h = absurd h
is_there (Some x) P h = refl

put-led : (o : Outcome (List ℕ)) (r : Outcome Val) (w v : Val) → Leads o r v
    → IfOk o (λ p. (value_at p (put_tree p w v) ≡ Some w) × ((q : List ℕ) → Apart p q → value_at q (put_tree p w v) ≡ value_at q v))
put-led (Ok p) r w v h = (put-held p w v (is_there (value_at p v) (λ x. r ≡ Ok x) h), λ q a. put-apart p q w v a)
put-led (Err e) r w v h = tt

pub view-held : (steps : List Step) (w v : Val)
    → IfOk (path_of steps v) (λ p. (value_at p (put_tree p w v) ≡ Some w) × ((q : List ℕ) → Apart p q → value_at q (put_tree p w v) ≡ value_at q v))
view-held steps w v = put-led (path_of steps v) (viewed steps v) w v (view-leads steps v)
