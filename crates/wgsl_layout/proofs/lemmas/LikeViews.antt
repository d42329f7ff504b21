-- Where a view leads in a value it leads in each value that is like it.
use Rattle.std.proofs.Common.{◌≡◌, ℕ, zero, suc, List, [], ◌∷◌, Option, Some, option_map, option_and_then, Ok, Err, Bool, true, false, refl, sym, ap, ◌∙◌, subst}
use Rattle.wgsl_values.proofs.lemmas.Steps.{item-storable, parts-storable}
use Rattle.wgsl_rules.specs.Kinds as kinds
use Rattle.wgsl_rules.specs.Kinds.{Kind}
use Rattle.wgsl_rules.specs.Types.{Ty, struct, vec}
use Rattle.wgsl_rules.specs.Values.{Step, member, index, Val, truth, number, record_of, array_of, vector, matrix, atomic_of, pointer, reference, deferred, Vals, no_vals, val, count, item, type_of, type_of_kind, first_type, matrix_type, array_type, IsStorable}
use Rattle.wgsl_rules.specs.Refusals.{Refusal, component, out_of_bounds, Outcome, and_then}
use Rattle.wgsl_rules.specs.Paths.{parts, index_in, placed, or_refused, stepped, viewed, path_of}
use Rattle.wgsl_layout.specs.Ranges.{step_in}
use Rattle.wgsl_layout.proofs.lemmas.ViewPaths.{step-gives, array-index, matrix-index}
use Rattle.wgsl_layout.proofs.lemmas.Alike.{IsLike, AreLike, like-both}

-- ---- a step into a value of a type

no-member-kind : (n : List ℕ) (k : Kind) (i : ℕ) → index_in n (type_of_kind k) ≡ Some i → ⊥
no-member-kind n kinds.abstract_int i e = cc
no-member-kind n kinds.i32 i e = cc
no-member-kind n kinds.u32 i e = cc
no-member-kind n kinds.i64 i e = cc
no-member-kind n kinds.u64 i e = cc

no-member-matrix : (n : List ℕ) (c : ℕ) (u : Ty) (i : ℕ) → index_in n (matrix_type c u) ≡ Some i → ⊥
no-member-matrix n c (vec r t) i e = cc
no-member-matrix n c u i e = cc

no-member-array : (n : List ℕ) (runtime : Bool) (t : Ty) (k i : ℕ) → index_in n (array_type runtime t k) ≡ Some i → ⊥
no-member-array n true t k i e = cc
no-member-array n false t k i e = cc

no-index-kind : (j : ℕ) (k : Kind) (i : ℕ) → step_in (index j) (type_of_kind k) ≡ Some i → ⊥
no-index-kind j kinds.abstract_int i e = cc
no-index-kind j kinds.i32 i e = cc
no-index-kind j kinds.u32 i e = cc
no-index-kind j kinds.i64 i e = cc
no-index-kind j kinds.u64 i e = cc

placed-there : (i : ℕ) (vs : Vals) (y : Val) → item i vs ≡ Some y → placed i vs ≡ Some (i, y)
placed-there i vs y e = ap (option_map (λ x. (i, x))) e

nat-is : (i j : ℕ) → ◌≡◌ {A = Option ℕ} (Some i) (Some j) → i ≡ j
nat-is i j e = cc

within-there : (j i : ℕ) (vs : Vals) (y : Val) (o : Option ℕ) (f : Refusal) → o ≡ Some j → o ≡ Some i → item i vs ≡ Some y → or_refused (placed j vs) f ≡ Ok (i, y)
within-there j i vs y o f a b e =
    let same : i ≡ j = nat-is i j (sym b ∙ a) in
    ap (λ (k : ℕ). or_refused (placed k vs) f) (sym same) ∙ ap (λ (p : Option (ℕ × Val)). or_refused p f) (placed-there i vs y e)

step-back : (s : Step) (w : Val) (i : ℕ) (y : Val) → IsStorable w → step_in s (type_of w) ≡ Some i → item i (parts w) ≡ Some y → stepped s w ≡ Ok (i, y)
step-back (member n) (record_of t vs) i y u e is =
    ap (λ (o : Option ℕ). or_refused (option_and_then (λ k. placed k vs) o) (component t n)) e ∙ ap (λ (p : Option (ℕ × Val)). or_refused p (component t n)) (placed-there i vs y is)
step-back (member n) (truth b) i y u e is = absurd (cc)
step-back (member n) (number k z) i y u e is = absurd (no-member-kind n k i e)
step-back (member n) (array_of runtime vs) i y u e is = absurd (no-member-array n runtime (first_type vs) (count vs) i e)
step-back (member n) (vector vs) i y u e is = absurd (cc)
step-back (member n) (matrix vs) i y u e is = absurd (no-member-matrix n (count vs) (first_type vs) i e)
step-back (member n) (atomic_of v) i y u e is = absurd (cc)
step-back (member n) (pointer r) i y u e is = absurd (cc)
step-back (member n) (reference r) i y u e is = absurd (cc)
step-back (member n) (deferred t) i y u e is = absurd u
step-back (index j) (record_of (struct n fs) vs) i y u e is = absurd (cc)
step-back (index j) (record_of t vs) i y u e is = absurd (u.0)
step-back (index j) (truth b) i y u e is = absurd (cc)
step-back (index j) (number k z) i y u e is = absurd (no-index-kind j k i e)
step-back (index j) (array_of runtime vs) i y u e is =
    within-there j i vs y (step_in (index j) (type_of (array_of runtime vs))) (out_of_bounds j (type_of (array_of runtime vs)) (count vs)) (array-index j runtime (first_type vs) (count vs)) e is
step-back (index j) (vector vs) i y u e is = within-there j i vs y (Some j) (out_of_bounds j (type_of (vector vs)) (count vs)) refl e is
step-back (index j) (matrix vs) i y u e is =
    within-there j i vs y (step_in (index j) (type_of (matrix vs))) (out_of_bounds j (type_of (matrix vs)) (count vs)) (matrix-index j (count vs) (first_type vs)) e is
step-back (index j) (atomic_of v) i y u e is = absurd (cc)
step-back (index j) (pointer r) i y u e is = absurd (cc)
step-back (index j) (reference r) i y u e is = absurd (cc)
step-back (index j) (deferred t) i y u e is = absurd u

-- ---- a view into a value that is like another

item-like : (i : ℕ) (vs ws : Vals) (y : Val) → AreLike vs ws → item i vs ≡ Some y → (z : Val) × (item i ws ≡ Some z) × IsLike y z
item-like i no_vals ws y h e = absurd (cc)
item-like i (val v vs) no_vals y h e = absurd h
item-like zero (val v vs) (val w ws) y h e = let same : v ≡ y = cc in (w, refl, subst (λ (u : Val). IsLike u w) same h.0)
item-like (suc i) (val v vs) (val w ws) y h e = item-like i vs ws y h.1 e

pub record LeadsAlike (steps : List Step) (w y : Val) : Type 0 where
  pub other : Val
  pub leads : viewed steps w ≡ Ok other
  pub typed : type_of y ≡ type_of other
  pub alike : IsLike y other

pub view-like : (steps : List Step) (v w y : Val) → IsLike v w → IsStorable w → viewed steps v ≡ Ok y → LeadsAlike steps w y
view-like [] v w y h u e = let same : v ≡ y = cc in record { other = w; leads = refl; typed = ap type_of (sym same) ∙ (like-both v w h).0; alike = subst (λ (u : Val). IsLike u w) same h }
view-like (s ∷ steps) v w y h u e = by (stepped s v) refl e (λ a b k t d. view-like steps a b y k t d)
  where
    On : Type 0
    On = (a b : Val) → IsLike a b → IsStorable b → viewed steps a ≡ Ok y → LeadsAlike steps b y

    by : (o : Outcome (ℕ × Val)) → stepped s v ≡ o → and_then o (λ p. viewed steps p.1) ≡ Ok y → On → LeadsAlike (s ∷ steps) w y
    by (Err x) is e on = absurd (cc)
    by (Ok p) is e on =
        let g = step-gives s v p is in
        let both = like-both v w h in
        let z = item-like p.0 (parts v) (parts w) p.1 both.1 g.1 in
        let back = step-back s w p.0 z.0 u (ap (step_in s) (sym both.0) ∙ g.0) z.1 in
        let rest = on p.1 z.0 z.2 (item-storable p.0 (parts w) z.0 (parts-storable w u) z.1) e in
        record { other = rest.other; leads = ap (λ (o : Outcome (ℕ × Val)). and_then o (λ p. viewed steps p.1)) back ∙ rest.leads; typed = rest.typed; alike = rest.alike }

-- the path of a view is the same in both
pub path-like : (steps : List Step) (v w : Val) (p : List ℕ) → IsLike v w → IsStorable w → path_of steps v ≡ Ok p → path_of steps w ≡ Ok p
path-like [] v w p h u e = e
path-like (s ∷ steps) v w p h u e = by (stepped s v) refl e (λ a b q k t d. path-like steps a b q k t d)
  where
    On : Type 0
    On = (a b : Val) (q : List ℕ) → IsLike a b → IsStorable b → path_of steps a ≡ Ok q → path_of steps b ≡ Ok q

    rest : (i : ℕ) (a b : Val) → IsLike a b → IsStorable b → stepped s w ≡ Ok (i, b) → (o : Outcome (List ℕ)) → path_of steps a ≡ o → and_then o (λ q. Ok (i ∷ q)) ≡ Ok p → On → path_of (s ∷ steps) w ≡ Ok p
    rest i a b k t back (Err x) is e on = absurd (cc)
    rest i a b k t back (Ok q) is e on =
        ap (λ (o : Outcome (ℕ × Val)). and_then o (λ z. and_then (path_of steps z.1) (λ y. Ok (z.0 ∷ y)))) back ∙ ap (λ (o : Outcome (List ℕ)). and_then o (λ y. Ok (i ∷ y))) (on a b q k t is) ∙ e

    by : (o : Outcome (ℕ × Val)) → stepped s v ≡ o → and_then o (λ z. and_then (path_of steps z.1) (λ q. Ok (z.0 ∷ q))) ≡ Ok p → On → path_of (s ∷ steps) w ≡ Ok p
    by (Err x) is e on = absurd (cc)
    by (Ok z) is e on =
        let g = step-gives s v z is in
        let both = like-both v w h in
        let c = item-like z.0 (parts v) (parts w) z.1 both.1 g.1 in
        let back = step-back s w z.0 c.0 u (ap (step_in s) (sym both.0) ∙ g.0) c.1 in
        rest z.0 z.1 c.0 c.2 (item-storable z.0 (parts w) c.0 (parts-storable w u) c.1) back (path_of steps z.1) refl e on
