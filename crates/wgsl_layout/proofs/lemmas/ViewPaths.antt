-- A view leads along one path in a value and in its layout.
use Rattle.std.proofs.Common.{◌≡◌, ℕ, List, [], ◌∷◌, Option, Some, None, Ok, Err, IfOk, option_map, option_and_then, Bool, true, false, refl, sym, ap, ◌∙◌}
use Rattle.wgsl_rules.specs.Types.{Ty, struct, array, vec, mat}
use Rattle.wgsl_rules.specs.Kinds.{Kind}
use Rattle.wgsl_rules.specs.Values.{Step, member, index, Val, record_of, array_of, vector, matrix, Vals, item, count, type_of, first_type, matrix_type, array_type}
use Rattle.wgsl_rules.specs.Refusals.{component, out_of_bounds, Outcome, and_then}
use Rattle.wgsl_rules.specs.Paths.{parts, index_in, placed, member_named, part_at as part_of, stepped, path_of}
use Rattle.wgsl_rules.specs.Layout.{Layout, type_in, leaf, leaf_kind, layout, layout_of, runtime_count}
use Rattle.wgsl_rules.proofs.lemmas.Paths.{named-both, or_refused-ok, placed-both}
use Rattle.wgsl_layout.specs.Ranges.{Range, part_at, parts_in, step_in, path_in, range_in, view_range}
use Rattle.wgsl_layout.specs.Laws.{ViewsLeadToRanges}
use Rattle.wgsl_layout.proofs.lemmas.Follows.{Follows, IsOwn, follows, part-leads, parts-follow}

leaf-type : (t : Ty) (k : Option Kind) → type_in (leaf t k) ≡ t
leaf-type t None = refl
leaf-type t (Some k) = refl

pub layout-type : (t : Ty) (n : ℕ) → type_in (layout n t) ≡ t
layout-type (vec k t) n = refl
layout-type (mat c r t) n = refl
layout-type (array t (Some k)) n = refl
layout-type (array t None) n = refl
layout-type (struct name fs) n = refl
layout-type t n = leaf-type t (leaf_kind t)

-- ---- one step

-- what a step gives: the position in the type, and the part there
abbrev pub Gives : Step → Val → ℕ × Val → Type 0
Gives s v p = (step_in s (type_of v) ≡ Some p.0) × (item p.0 (parts v) ≡ Some p.1)

placed-gives : (i : ℕ) (vs : Vals) (p : ℕ × Val) (o : Option ℕ) → placed i vs ≡ Some p → o ≡ Some i → (o ≡ Some p.0) × (item p.0 vs ≡ Some p.1)
placed-gives i vs p o e is = let h = placed-both i vs p e in (is ∙ ap Some h.0, ap (λ (j : ℕ). item j vs) (sym h.0) ∙ h.1)

pub array-index : (i : ℕ) (runtime : Bool) (t : Ty) (n : ℕ) → step_in (index i) (array_type runtime t n) ≡ Some i
array-index i true t n = refl
array-index i false t n = refl

pub matrix-index : (i c : ℕ) (u : Ty) → step_in (index i) (matrix_type c u) ≡ Some i
matrix-index i c (vec r t) = refl
matrix-index i c u = refl

member-gives : (n : List ℕ) (v : Val) (p : ℕ × Val) → member_named n v ≡ Some p → Gives (member n) v p
member-gives n (record_of t vs) p e = named-both (index_in n t) vs p e
member-gives n v p e = absurd (cc)

index-gives : (i : ℕ) (v : Val) (p : ℕ × Val) → part_of i v ≡ Ok p → Gives (index i) v p
index-gives i (array_of runtime vs) p e =
    placed-gives i vs p (step_in (index i) (type_of (array_of runtime vs))) (or_refused-ok (placed i vs) (out_of_bounds i (type_of (array_of runtime vs)) (count vs)) p e) (array-index i runtime (first_type vs) (count vs))
index-gives i (vector vs) p e = placed-gives i vs p (Some i) (or_refused-ok (placed i vs) (out_of_bounds i (type_of (vector vs)) (count vs)) p e) refl
index-gives i (matrix vs) p e =
    placed-gives i vs p (step_in (index i) (type_of (matrix vs))) (or_refused-ok (placed i vs) (out_of_bounds i (type_of (matrix vs)) (count vs)) p e) (matrix-index i (count vs) (first_type vs))
index-gives i v p e = absurd (cc)

pub step-gives : (s : Step) (v : Val) (p : ℕ × Val) → stepped s v ≡ Ok p → Gives s v p
step-gives (member n) v p e = member-gives n v p (or_refused-ok (member_named n v) (component (type_of v) n) p e)
step-gives (index i) v p e = index-gives i v p e

-- ---- a view

pub path-in-is : (steps : List Step) (l : Layout) (v : Val) (p : List ℕ) → IsOwn l v → Follows l v → path_of steps v ≡ Ok p → path_in steps l ≡ Some p
path-in-is [] l v p own f e = let same : [] ≡ p = cc in ap Some same
path-in-is (s ∷ steps) l v p own f e = by (stepped s v) refl e (λ q y r o g d. path-in-is steps q y r o g d)
  where
    On : Type 0
    On = (q : Layout) (y : Val) (r : List ℕ) → IsOwn q y → Follows q y → path_of steps y ≡ Ok r → path_in steps q ≡ Some r

    type_is : type_in l ≡ type_of v
    type_is = ap type_in own.0 ∙ layout-type (type_of v) (runtime_count v)

    rest : (q : ℕ × Val) → stepped s v ≡ Ok q → (o : Outcome (List ℕ)) → path_of steps q.1 ≡ o → and_then o (λ r. Ok (q.0 ∷ r)) ≡ Ok p → On → path_in (s ∷ steps) l ≡ Some p
    rest q is (Err x) at_rest e on = absurd (cc)
    rest q is (Ok r) at_rest e on =
        let same : (q.0 ∷ r) ≡ p = cc in
        let g = step-gives s v q is in
        let lead = part-leads q.0 (parts_in l) (parts v) q.1 (parts-follow l v f) g.1 in
        let step_is : step_in s (type_in l) ≡ Some q.0 = ap (step_in s) type_is ∙ g.0 in
        ap (λ (o : Option ℕ). option_and_then (λ i. option_and_then (λ r. option_map (λ p. i ∷ p) (path_in steps r.layout)) (part_at i (parts_in l))) o) step_is
        ∙ ap (λ (o : Option Range). option_and_then (λ r. option_map (λ p. q.0 ∷ p) (path_in steps r.layout)) o) lead.there
        ∙ ap (λ (o : Option (List ℕ)). option_map (λ p. q.0 ∷ p) o) (on lead.range_of.layout q.1 r lead.own lead.follow at_rest)
        ∙ ap Some same

    by : (o : Outcome (ℕ × Val)) → stepped s v ≡ o → and_then o (λ q. and_then (path_of steps q.1) (λ r. Ok (q.0 ∷ r))) ≡ Ok p → On → path_in (s ∷ steps) l ≡ Some p
    by (Err x) is e on = absurd (cc)
    by (Ok q) is e on = rest q is (path_of steps q.1) refl e on

pub view-range-is : ViewsLeadToRanges
view-range-is steps v s h = by (path_of steps v) refl
  where
    by : (o : Outcome (List ℕ)) → path_of steps v ≡ o → IfOk o (λ p. view_range steps (layout_of v) ≡ range_in p (layout_of v))
    by (Ok p) is = ap (option_and_then (λ p. range_in p (layout_of v))) (path-in-is steps (layout_of v) v p (refl, h) (follows v s h) is)
    by (Err e) is = tt
