-- References name what has the layout that it had, after a new cell and after a put.
use Rattle.std.proofs.Common.{◌≡◌, ◌⊎◌, ℕ, zero, suc, List, [], ◌∷◌, ◌++◌, slice_get, Some, is_some, option_and_then, Ok, Err, true, sym, ap, ◌∙◌, subst, refl}
use mathlib.Core.Logic.{inl, inr}
use Rattle.wgsl_rules.specs.Layout.{layout, layout_of, runtime_count}
use Rattle.wgsl_rules.specs.Paths.{fits, or_refused, parts, put_tree, put_viewed, value_at, viewed, FitsPlace}
use Rattle.wgsl_rules.specs.Refusals.{not_read, Outcome, and_then}
use Rattle.wgsl_rules.specs.Values.{Reference, Val, Vals, no_vals, val, item, type_of, IsStorable}
use Rattle.wgsl_rules.proofs.lemmas.Paths.{fits-Decides}
use Rattle.wgsl_rules.proofs.lemmas.Slices.{slice_get-append}
use Rattle.wgsl_values.proofs.lemmas.Replaced.{a_part_replaced, part-storable}
use Rattle.wgsl_values.proofs.lemmas.Steps.{viewed-storable}
use Rattle.wgsl_values.proofs.lemmas.ViewedPaths.{has-path}
use Rattle.wgsl_store.specs.Memory.{held, IsSound, put_cells}
use Rattle.wgsl_store.specs.MemoryLaws.{ANewCellKeepsLayouts, AWriteKeepsLayouts, KeepsLayouts, layout_held}
use Rattle.wgsl_layout.proofs.lemmas.Alike.{AreLike, IsLike, fits-like, like-both, put-like}
use Rattle.wgsl_store.proofs.lemmas.Held.{HasCell, Kept, has-cell, held-value, kept-is, sound-at}
use Rattle.wgsl_layout.proofs.lemmas.LikeViews.{view-like}
use Rattle.wgsl_layout.proofs.lemmas.Places.{fits-count}
use Rattle.wgsl_store.proofs.lemmas.Sound.{at-there}
use Rattle.wgsl_store.proofs.lemmas.Writes.{write-is}

-- ---- values that are alike have one layout

items-like : (p : List ℕ) (i : ℕ) (vs ws : Vals) → AreLike vs ws → ((y z : Val) → IsLike y z → is_some (value_at p y) ≡ is_some (value_at p z))
    → is_some (option_and_then (value_at p) (item i vs)) ≡ is_some (option_and_then (value_at p) (item i ws))
items-like p i no_vals no_vals h on = refl
items-like p i no_vals (val w ws) h on = absurd h
items-like p i (val v vs) no_vals h on = absurd h
items-like p zero (val v vs) (val w ws) h on = on v w h.0
items-like p (suc i) (val v vs) (val w ws) h on = items-like p i vs ws h.1 on

paths-like : (p : List ℕ) (v w : Val) → IsLike v w → is_some (value_at p v) ≡ is_some (value_at p w)
paths-like [] v w h = refl
paths-like (i ∷ p) v w h = items-like p i (parts v) (parts w) (like-both v w h).1 (λ y z k. paths-like p y z k)

layout-like : (v w : Val) → IsStorable v → IsStorable w → IsLike v w → layout_of w ≡ layout_of v
layout-like v w s t h =
    let typed = (like-both v w h).0 in
    let counted = fits-count v w s t (typed, λ p. paths-like p v w h) in
    ap (λ (k : ℕ). layout k (type_of w)) (sym counted) ∙ ap (layout (runtime_count v)) (sym typed)

-- ---- what a reference names

held-is : (cells : List Val) (r : Reference) (x y : Val) → slice_get cells r.cell ≡ Some x → viewed r.view x ≡ Ok y → held cells r ≡ Ok y
held-is cells r x y e v = ap (λ (o : _). and_then (or_refused o not_read) (viewed r.view)) e ∙ v

same-layout : (cells after : List Val) (r : Reference) (y z : Val) → held cells r ≡ Ok y → held after r ≡ Ok z → layout_of z ≡ layout_of y → layout_held after r ≡ layout_held cells r
same-layout cells after r y z e f l = ap (λ (o : Outcome Val). and_then o (λ v. Ok (layout_of v))) f ∙ ap Ok l ∙ sym (ap (λ (o : Outcome Val). and_then o (λ v. Ok (layout_of v))) e)

pub new-cell-layouts : ANewCellKeepsLayouts
new-cell-layouts cells v r k =
    let h = kept-is cells r k in
    let c = h.at_cell in
    same-layout cells (cells ++ v ∷ []) r h.held_value h.held_value h.holds (held-is (cells ++ v ∷ []) r c.cell h.held_value (slice_get-append cells (v ∷ []) r.cell c.cell c.there) c.leads) refl

-- ---- a put

pub put-layouts : (cells : List Val) (r : Reference) (w old : Val) → IsSound cells → IsStorable w → held cells r ≡ Ok old → fits w old ≡ true → KeepsLayouts cells (put_cells cells r w)
put-layouts cells r w old s hw e f q k = by (at-there cells r.cell q.cell (put_viewed r.view w) own.cell own.there)
  where
    h : Kept cells q
    h = kept-is cells q k

    own : HasCell cells q h.held_value
    own = h.at_cell

    after : List Val
    after = put_cells cells r w

    by : (slice_get after q.cell ≡ Some own.cell) ⊎ ((r.cell ≡ q.cell) × (slice_get after q.cell ≡ Some (put_viewed r.view w own.cell))) → layout_held after q ≡ layout_held cells q
    by (inl a) = same-layout cells after q h.held_value h.held_value h.holds (held-is after q own.cell h.held_value a own.leads) refl
    by (inr b) =
        let c = has-cell cells r old e in
        let x = own.cell in
        let same_cell : Some c.cell ≡ Some x = sym c.there ∙ ap (slice_get cells) b.0 ∙ own.there in
        let same : c.cell ≡ x = cc in
        let leads : viewed r.view x ≡ Ok old = subst (λ (u : Val). viewed r.view u ≡ Ok old) same c.leads in
        let sound = sound-at cells cells q.cell x s own.there in
        let p = has-path r.view x old leads in
        let so = part-storable p.path x old sound.0 p.stands in
        let fit : FitsPlace w old = (fits-Decides w old).0 f in
        let put_is : put_viewed r.view w x ≡ put_tree p.path w x = ap (λ (o : Outcome (List ℕ)). elim o [ Ok q ↦ put_tree q w x | Err r ↦ x ]) p.there in
        let alike = subst (IsLike x) (sym put_is) (put-like p.path w x old p.stands (fits-like w old hw so fit)) in
        let storable = subst IsStorable (sym put_is) ((a_part_replaced p.path x w old sound.0 p.stands hw fit.0).storable) in
        let l = view-like q.view x (put_viewed r.view w x) h.held_value alike storable own.leads in
        same-layout cells after q h.held_value l.other h.holds (held-is after q (put_viewed r.view w x) l.other b.1 l.leads)
        (layout-like h.held_value l.other (held-value cells q h.held_value s h.holds).0 (viewed-storable q.view (put_viewed r.view w x) l.other storable l.leads) l.alike)

pub write-layouts : AWriteKeepsLayouts
write-layouts cells after r w s hw e = let a = write-is cells after r w e in subst (KeepsLayouts cells) a.put (put-layouts cells r w a.old s hw.0 a.is.holds a.is.fit)
