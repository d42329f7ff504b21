-- Where a view leads from a place.
use Rattle.std.proofs.Common.{◌≡◌, ℕ, zero, suc, ◌*◌, List, ◌∷◌, Option, Some, None, option_map, option_and_then, true, refl, sym, ap, ◌∙◌, subst}
use Rattle.std.specs.Prelude.{IsSomeAnd, nat_lt, ◌&&◌}
use Rattle.std.proofs.lemmas.Option.{same_Some}
use Rattle.wgsl_rules.specs.Types.{Ty, struct, array, vec, mat, Fields, no_fields, field}
use Rattle.wgsl_rules.specs.Size.{extent_in, end_after}
use Rattle.wgsl_rules.specs.Values.{Step}
use Rattle.wgsl_rules.specs.Layout.{size, align, stride, has_layout, Layout, layout, type_in}
use Rattle.wgsl_nodes.specs.Places.{Part, part_with, member_in}
use Rattle.wgsl_layout.specs.Ranges.{Range, further, part_at, parts_in, path_in, range_in, step_in, view_range}
use Rattle.wgsl_layout.proofs.lemmas.ViewPaths.{layout-type}
use Rattle.wgsl_places.specs.Places.{IsPlace, ArePlaces}
use Rattle.wgsl_places.specs.Steps.{field_at, step_to, type_at}
use Rattle.wgsl_places.specs.declared.place.Place.{Place}
use Rattle.wgsl_places.proofs.Parts.{range_of, parts-agree, if-is}
use Rattle.wgsl_layout.proofs.lemmas.PathRanges.{further-twice as further-on}

-- ---- the type of a part

field-there : (i : ℕ) (from : Option ℕ) (fs : Fields) (q : Part) → member_in from i fs ≡ Some q → field_at i fs ≡ Some q.ty
field-there i from no_fields q e = absurd (cc (e))
field-there zero from (field name t s a fs) q e = let same : t ≡ q.ty = cc (e) in ap Some same
field-there (suc i) from (field name t s a fs) q e = field-there i (end_after from (extent_in t s a)) fs q e

part-type : (n i : ℕ) (u : Ty) (q : Part) → part_with n i u ≡ Some q → type_at i u ≡ Some q.ty
part-type n i (vec k u) q e = ap Some (if-is (nat_lt i k) (i * size u) u q e)
part-type n i (mat c r u) q e = ap Some (if-is (nat_lt i c) (i * align (vec r u)) (vec r u) q e)
part-type n i (array u (Some k)) q e = ap Some (if-is (nat_lt i k) (i * stride u) u q e)
part-type n i (array u None) q e = ap Some (if-is (nat_lt 0 (stride u) && nat_lt i n) (i * stride u) u q e)
part-type n i (struct name fs) q e = field-there i (Some 0) fs q e
part-type n i t q e = absurd (cc (e))

range-type : (n i : ℕ) (u : Ty) (r : Range) → has_layout u ≡ true → part_at i (parts_in (layout n u)) ≡ Some r → type_at i u ≡ Some (type_in r.layout)
range-type n i u r h e = by (part_with n i u) refl
  where
    by : (o : Option Part) → part_with n i u ≡ o → type_at i u ≡ Some (type_in r.layout)
    by None none = let both : None ≡ Some r = sym (ap (option_map (range_of n)) none) ∙ sym (parts-agree n i u h) ∙ e in absurd (cc (both))
    by (Some q) some =
        let both : Some (range_of n q) ≡ Some r = sym (ap (option_map (range_of n)) some) ∙ sym (parts-agree n i u h) ∙ e in
        let same : range_of n q ≡ r = cc (both) in
        part-type n i u q some ∙ ap Some (sym (layout-type q.ty n)) ∙ ap (λ (x : Range). Some (type_in x.layout)) same

-- ---- one step more

abbrev onward : Step → List Step → Layout → Option Range
onward s steps l = option_and_then (λ i. option_and_then (λ q. option_map (further q.start) (view_range steps q.layout)) (part_at i (parts_in l))) (step_in s (type_in l))

view-on : (s : Step) (steps : List Step) (l : Layout) → view_range (s ∷ steps) l ≡ onward s steps l
view-on s steps l = by (step_in s (type_in l))
  where
    at_path : (i : ℕ) (q : Range) (o : Option (List ℕ)) → part_at i (parts_in l) ≡ Some q
        → option_and_then (λ p. range_in p l) (option_map (λ p. i ∷ p) o) ≡ option_map (further q.start) (option_and_then (λ p. range_in p q.layout) o)
    at_path i q None e = refl
    at_path i q (Some p) e = ap (option_and_then (λ r. option_map (further r.start) (range_in p r.layout))) e

    at_part : (i : ℕ) (o : Option Range) → part_at i (parts_in l) ≡ o
        → option_and_then (λ p. range_in p l) (option_and_then (λ r. option_map (λ p. i ∷ p) (path_in steps r.layout)) o) ≡ option_and_then (λ q. option_map (further q.start) (view_range steps q.layout)) o
    at_part i None e = refl
    at_part i (Some q) e = at_path i q (path_in steps q.layout) e

    by : (o : Option ℕ)
        → option_and_then (λ p. range_in p l) (option_and_then (λ i. option_and_then (λ r. option_map (λ p. i ∷ p) (path_in steps r.layout)) (part_at i (parts_in l))) o)
        ≡ option_and_then (λ i. option_and_then (λ q. option_map (further q.start) (view_range steps q.layout)) (part_at i (parts_in l))) o
    by None = refl
    by (Some i) = at_part i (part_at i (parts_in l)) refl

-- ---- what is answered

-- a view that goes on by this step leads to `result`
abbrev pub Led : Ty → Range → Step → List Step → Option Place → Type 0
Led t r s steps result = ArePlaces t (option_map (further r.start) (view_range (s ∷ steps) r.layout)) result

-- the answer for what is behind the step
abbrev Onward : Ty → Range → Step → List Step → Option Place → Type 0
Onward t r s steps result = ArePlaces t (option_map (further r.start) (onward s steps r.layout)) result

led : (t : Ty) (r : Range) (s : Step) (steps : List Step) (result : Option Place) → Onward t r s steps result → Led t r s steps result
led t r s steps result h = subst (λ (o : Option Range). ArePlaces t (option_map (further r.start) o) result) (sym (view-on s steps r.layout)) h

pub led-by : (t : Ty) (r : Range) (s : Step) (steps all : List Step) (result : Option Place) → all ≡ s ∷ steps → Led t r s steps result → ArePlaces t (option_map (further r.start) (view_range all r.layout)) result
led-by t r s steps all result e h = subst (λ (ss : List Step). ArePlaces t (option_map (further r.start) (view_range ss r.layout)) result) (sym e) h

-- no such step is taken in the type
pub nowhere : (t : Ty) (r : Range) (p : Place) (s : Step) (steps : List Step) (u : Ty) → IsPlace t r p → type_in r.layout ≡ u → step_to s u ≡ None → Led t r s steps None
nowhere t r p s steps u is e none = led t r s steps None (by (step_in s (type_in r.layout)) refl)
  where
    own : step_to s (type_in r.layout) ≡ None
    own = ap (step_to s) e ∙ none

    at : (i : ℕ) (o : Option Range) → part_at i (parts_in r.layout) ≡ o → step_in s (type_in r.layout) ≡ Some i
        → ArePlaces t (option_map (further r.start) (option_and_then (λ q. option_map (further q.start) (view_range steps q.layout)) o)) None
    at i None here step = refl
    at i (Some q) here step =
        let type_is = range-type p.elements i (type_in r.layout) q is.laid (ap (λ (l : Layout). part_at i (parts_in l)) (sym is.layout_is) ∙ here) in
        let some : step_to s (type_in r.layout) ≡ Some (i, type_in q.layout) =
        ap (option_and_then (λ i. option_map (λ u. (i, u)) (type_at i (type_in r.layout)))) step ∙ ap (option_map (λ u. (i, u))) type_is in
        absurd (cc (own, some))

    by : (o : Option ℕ) → step_in s (type_in r.layout) ≡ o
        → ArePlaces t (option_map (further r.start) (option_and_then (λ i. option_and_then (λ q. option_map (further q.start) (view_range steps q.layout)) (part_at i (parts_in r.layout))) o)) None
    by None step = refl
    by (Some i) step = at i (part_at i (parts_in r.layout)) refl step

-- the position and the type that a step leads to
step-both : (s : Step) (u : Ty) (i : ℕ) (v : Ty) → step_to s u ≡ Some (i, v) → (step_in s u ≡ Some i) × (type_at i u ≡ Some v)
step-both s u i v e = by (step_in s u) refl e
  where
    at : (j : ℕ) (o : Option Ty) → step_in s u ≡ Some j → type_at j u ≡ o → option_map {U = ℕ × Ty} (λ w. (j, w)) o ≡ Some (i, v) → (step_in s u ≡ Some i) × (type_at i u ≡ Some v)
    at j None step type_is e = absurd (cc (e))
    at j (Some w) step type_is e =
        let pair = same_Some {A = ℕ × Ty} (j, w) (i, v) e in
        let same : j ≡ i = ap (λ (q : ℕ × Ty). q.0) pair in
        let own : w ≡ v = ap (λ (q : ℕ × Ty). q.1) pair in
        (step ∙ ap Some same, subst (λ (k : ℕ). type_at k u ≡ Some w) same type_is ∙ ap Some own)

    by : (o : Option ℕ) → step_in s u ≡ o → option_and_then {U = ℕ × Ty} (λ i. option_map {U = ℕ × Ty} (λ u. (i, u)) (type_at i u)) o ≡ Some (i, v) → (step_in s u ≡ Some i) × (type_at i u ≡ Some v)
    by None step e = absurd (cc (e))
    by (Some j) step e = at j (type_at j u) step refl e

-- the step is taken, and the part there leads on as `on` says
pub onward-led : (t : Ty) (r : Range) (p : Place) (s : Step) (steps : List Step) (u v : Ty) (i : ℕ) (next result : Option Place) → IsPlace t r p → type_in r.layout ≡ u → step_to s u ≡ Some (i, v)
    → ArePlaces t (option_map (further r.start) (part_at i (parts_in r.layout))) next
    → (next ≡ None → result ≡ None)
    → ((q : Place) (x : Range) → next ≡ Some q → IsPlace t x q → type_in x.layout ≡ v → ArePlaces t (option_map (further x.start) (view_range steps x.layout)) result)
    → Led t r s steps result
onward-led t r p s steps u v i next result is e step found none on = led t r s steps result (by (part_at i (parts_in r.layout)) refl found)
  where
    own : (step_in s (type_in r.layout) ≡ Some i) × (type_at i (type_in r.layout) ≡ Some v)
    own = step-both s (type_in r.layout) i v (ap (step_to s) e ∙ step)

    at : Option Range → Type 0
    at o = ArePlaces t (option_map (further r.start) (option_and_then (λ q. option_map (further q.start) (view_range steps q.layout)) o)) result

    moved : at (part_at i (parts_in r.layout)) → Onward t r s steps result
    moved h = subst (λ (o : Option ℕ). ArePlaces t (option_map (further r.start) (option_and_then (λ i. option_and_then (λ q. option_map (further q.start) (view_range steps q.layout)) (part_at i (parts_in r.layout))) o)) result) (sym own.0) h

    there : (q : Range) → part_at i (parts_in r.layout) ≡ Some q → (o : Option Place) → next ≡ o → IsSomeAnd o (IsPlace t (further r.start q)) → at (Some q)
    there q here None n h = absurd h
    there q here (Some x) n h =
        let type_is = range-type p.elements i (type_in r.layout) q is.laid (ap (λ (l : Layout). part_at i (parts_in l)) (sym is.layout_is) ∙ here) in
        let both : Some (type_in q.layout) ≡ Some v = sym type_is ∙ own.1 in
        let same : type_in q.layout ≡ v = cc (both) in
        subst (λ (o : Option Range). ArePlaces t o result) (sym (further-on r.start q.start (view_range steps q.layout))) (on x (further r.start q) n h same)

    by : (o : Option Range) → part_at i (parts_in r.layout) ≡ o → ArePlaces t (option_map (further r.start) o) next → Onward t r s steps result
    by None here h = moved (subst at (sym here) (none h))
    by (Some q) here h = moved (subst at (sym here) (there q here next refl h))

-- there is no part there
pub past-led : (t : Ty) (r : Range) (p : Place) (s : Step) (steps : List Step) (u v : Ty) (i : ℕ) → IsPlace t r p → type_in r.layout ≡ u → Some (i, v) ≡ step_to s u
    → ArePlaces t (option_map (further r.start) (part_at i (parts_in r.layout))) None → Led t r s steps None
past-led t r p s steps u v i is e step found = onward-led t r p s steps u v i None None is e (sym step) found (λ same. refl) (λ q x same here type_is. absurd (cc (same)))

-- the part there leads on
pub on-led : (t : Ty) (r : Range) (p : Place) (s : Step) (steps : List Step) (u v : Ty) (i : ℕ) (next : Place) (result : Option Place) → IsPlace t r p → type_in r.layout ≡ u → Some (i, v) ≡ step_to s u
    → ArePlaces t (option_map (further r.start) (part_at i (parts_in r.layout))) (Some next)
    → ((x : Range) → IsPlace t x next → type_in x.layout ≡ v → ArePlaces t (option_map (further x.start) (view_range steps x.layout)) result)
    → Led t r s steps result
on-led t r p s steps u v i next result is e step found on =
    onward-led t r p s steps u v i (Some next) result is e (sym step) found (λ same. absurd (cc (same)))
    (λ q x same here type_is. let one : next ≡ q = cc (same) in on x (subst (λ (y : Place). IsPlace t x y) (sym one) here) type_is)
