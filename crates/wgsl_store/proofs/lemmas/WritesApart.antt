-- Writes apart commute, and neither changes what the other reads.
use Rattle.std.proofs.Common.{◌≡◌, ◌≢◌, ℕ, zero, suc, List, [], ◌∷◌, slice_get, Option, Some, Ok, Err, Bool, true, false, if◌then◌else◌, refl, sym, ap, ◌∙◌, subst}
use Rattle.std.proofs.lemmas.Option.{same_Some}
use mathlib.Core.Logic.{inl, inr}
use native.Mathlib.Decide.{ℕ_discrete}
use Rattle.wgsl_rules.specs.Access.{can_write}
use Rattle.wgsl_rules.specs.Values.{Step, Reference, Val, record_of, array_of, vector, matrix, Vals, no_vals, val, type_of, IsStorable}
use Rattle.wgsl_rules.specs.Refusals.{not_read, not_write, write_ref_type, Outcome, and_then}
use Rattle.wgsl_rules.specs.Paths.{parts, value_at, path_of, viewed, replace_item, with_parts, put_tree, put_viewed, fits, FitsPlace, or_refused}
use Rattle.wgsl_rules.specs.Laws.{Apart}
use Rattle.wgsl_rules.proofs.lemmas.Paths.{fits-Decides, put-apart, apart-on}
use Rattle.wgsl_values.proofs.lemmas.Replaced.{a_part_replaced, part-storable}
use Rattle.wgsl_values.proofs.lemmas.ViewedPaths.{has-path}
use Rattle.wgsl_store.specs.Memory.{held, IsKept, IsSound, at_position, put_cells}
use Rattle.wgsl_store.specs.ReferenceCalls.{written}
use Rattle.wgsl_store.specs.MemoryLaws.{AreApart, WritesApartCommute}
use Rattle.wgsl_layout.proofs.lemmas.ViewedPaths.{leads-to}
use Rattle.wgsl_store.proofs.lemmas.Held.{has-cell, sound-at, kept-is}
use Rattle.wgsl_layout.proofs.lemmas.Alike.{put-like, fits-like}
use Rattle.wgsl_layout.proofs.lemmas.LikeViews.{path-like}
use Rattle.wgsl_store.proofs.lemmas.Writes.{IsWrite, write-is, accepts, at-own, PutCell, put-cell}

-- ---- two puts at paths apart

replaced-both : (i j : ℕ) (f g : Val → Val) (vs : Vals) → (i ≡ j → (y : Val) → g (f y) ≡ f (g y)) → replace_item j g (replace_item i f vs) ≡ replace_item i f (replace_item j g vs)
replaced-both i j f g no_vals h = refl
replaced-both zero zero f g (val v vs) h = ap (λ (u : Val). val u vs) (h refl v)
replaced-both zero (suc j) f g (val v vs) h = refl
replaced-both (suc i) zero f g (val v vs) h = refl
replaced-both (suc i) (suc j) f g (val v vs) h = ap (val v) (replaced-both i j f g vs (λ e. h (ap suc e)))

whole-both : (i j : ℕ) (f g : Val → Val) (x : Val) → (i ≡ j → (y : Val) → g (f y) ≡ f (g y))
    → with_parts (with_parts x (replace_item i f (parts x))) (replace_item j g (parts (with_parts x (replace_item i f (parts x)))))
    ≡ with_parts (with_parts x (replace_item j g (parts x))) (replace_item i f (parts (with_parts x (replace_item j g (parts x)))))
whole-both i j f g (record_of t vs) h = ap (record_of t) (replaced-both i j f g vs h)
whole-both i j f g (array_of runtime vs) h = ap (array_of runtime) (replaced-both i j f g vs h)
whole-both i j f g (vector vs) h = ap vector (replaced-both i j f g vs h)
whole-both i j f g (matrix vs) h = ap matrix (replaced-both i j f g vs h)
whole-both i j f g v h = refl

puts-commute : (p s : List ℕ) (v w x : Val) → Apart p s → put_tree s w (put_tree p v x) ≡ put_tree p v (put_tree s w x)
puts-commute [] s v w x h = absurd (h.0 (s, refl))
puts-commute (i ∷ p) [] v w x h = absurd (h.1 (i ∷ p, refl))
puts-commute (i ∷ p) (j ∷ s) v w x h = whole-both i j (put_tree p v) (put_tree s w) x (λ e y. puts-commute p s v w y (apart-on i j p s h e))

-- ---- two positions

pub at-other : (cells : List Val) (i j : ℕ) (g : Val → Val) → i ≢ j → slice_get (at_position i g cells) j ≡ slice_get cells j
at-other [] i j g n = refl
at-other (y ∷ ys) zero zero g n = absurd (n refl)
at-other (y ∷ ys) zero (suc j) g n = refl
at-other (y ∷ ys) (suc i) zero g n = refl
at-other (y ∷ ys) (suc i) (suc j) g n = at-other ys i j g (λ e. n (ap suc e))

at-both : (cells : List Val) (i j : ℕ) (f g : Val → Val) → (i ≡ j → (x : Val) → slice_get cells i ≡ Some x → g (f x) ≡ f (g x)) → at_position j g (at_position i f cells) ≡ at_position i f (at_position j g cells)
at-both [] i j f g h = refl
at-both (y ∷ ys) zero zero f g h = ap (λ (z : Val). z ∷ ys) (h refl y refl)
at-both (y ∷ ys) zero (suc j) f g h = refl
at-both (y ∷ ys) (suc i) zero f g h = refl
at-both (y ∷ ys) (suc i) (suc j) f g h = ap (λ (zs : List Val). y ∷ zs) (at-both ys i j f g (λ e x is. h (ap suc e) x is))

-- ---- what the one write changes for the other

-- a reference into the cell of an accepted write, apart from it: it leads along its path after the write too
held-same-cell : (cells : List Val) (q r : Reference) (v old y : Val) (s : List ℕ) → IsSound cells → IsStorable v → (c : PutCell cells q v old) → fits v old ≡ true → q.cell ≡ r.cell
    → path_of r.view c.cell ≡ Ok s → value_at s c.cell ≡ Some y → Apart c.path s → held (put_cells cells q v) r ≡ Ok y
held-same-cell cells q r v old y s sound t c f same leads stands apart =
    let x = c.cell in
    let sx = sound-at cells cells q.cell x sound c.there in
    let fit : FitsPlace v old = (fits-Decides v old).0 f in
    let like = fits-like v old t (part-storable c.path x old sx.0 c.stands) fit in
    let after = path-like r.view x (put_tree c.path v x) s (put-like c.path v x old c.stands like) ((a_part_replaced c.path x v old sx.0 c.stands t fit.0).storable) leads in
    let at_r : slice_get (put_cells cells q v) r.cell ≡ Some (put_viewed q.view v x) = ap (slice_get (put_cells cells q v)) (sym same) ∙ at-own cells q.cell (put_viewed q.view v) x c.there in
    ap (λ (o : Option Val). and_then (or_refused o not_read) (viewed r.view)) at_r ∙ ap (viewed r.view) c.put
    ∙ leads-to r.view (put_tree c.path v x) y s after (put-apart c.path s v x apart ∙ stands)

held-other-cell : (cells : List Val) (q r : Reference) (v : Val) → q.cell ≢ r.cell → held (put_cells cells q v) r ≡ held cells r
held-other-cell cells q r v n = ap (λ (o : Option Val). and_then (or_refused o not_read) (viewed r.view)) (at-other cells q.cell r.cell (put_viewed q.view v) n)

begins-back : (p s : List ℕ) → Apart p s → Apart s p
begins-back p s h = (h.1, h.0)

-- the paths of the two in one cell
pub record TwoPaths (cells : List Val) (q r : Reference) (a b : Val) : Type 0 where
  pub cell : Val
  pub there : slice_get cells q.cell ≡ Some cell
  pub one : List ℕ
  pub two : List ℕ
  pub leads_one : path_of q.view cell ≡ Ok one
  pub leads_two : path_of r.view cell ≡ Ok two
  pub stands_one : value_at one cell ≡ Some a
  pub stands_two : value_at two cell ≡ Some b
  pub apart : Apart one two

two-paths : (cells : List Val) (q r : Reference) (a b : Val) → held cells q ≡ Ok a → held cells r ≡ Ok b → q.cell ≡ r.cell
    → ((v : Val) (p s : List ℕ) → slice_get cells r.cell ≡ Some v → path_of q.view v ≡ Ok p → path_of r.view v ≡ Ok s → Apart p s) → TwoPaths cells q r a b
two-paths cells q r a b hq hr same h =
    let c = has-cell cells q a hq in
    let d = has-cell cells r b hr in
    let both : Some d.cell ≡ Some c.cell = sym d.there ∙ ap (slice_get cells) (sym same) ∙ c.there in
    let eq : d.cell ≡ c.cell = cc in
    let p = has-path q.view c.cell a c.leads in
    let s = has-path r.view c.cell b (ap (viewed r.view) (sym eq) ∙ d.leads) in
    record {
      cell = c.cell;
      there = c.there;
      one = p.path;
      two = s.path;
      leads_one = p.there;
      leads_two = s.there;
      stands_one = p.stands;
      stands_two = s.stands;
      apart = h c.cell p.path s.path (d.there ∙ both) p.there s.there;
    }

-- what both writes need of one another
pub record Independent (cells : List Val) (q r : Reference) (v w a : Val) : Type 0 where
  pub held_two : held (put_cells cells q v) r ≡ held cells r
  pub held_one : (old : Val) → held cells r ≡ Ok old → fits w old ≡ true → held (put_cells cells r w) q ≡ held cells q
  pub commute : (old : Val) → held cells r ≡ Ok old → fits w old ≡ true → put_cells (put_cells cells q v) r w ≡ put_cells (put_cells cells r w) q v

independent : (cells : List Val) (q r : Reference) (v w a : Val) → IsSound cells → IsKept cells r → IsStorable v → IsStorable w → AreApart cells q r → held cells q ≡ Ok a → fits v a ≡ true → Independent cells q r v w a
independent cells q r v w a s k tv tw apart hq fa = by (ℕ_discrete q.cell r.cell) apart
  where
    other : q.cell ≢ r.cell → Independent cells q r v w a
    other n = record {
      held_two = held-other-cell cells q r v n;
      held_one = λ old h f. held-other-cell cells r q w (λ e. n (sym e));
      commute = λ old h f. at-both cells q.cell r.cell (put_viewed q.view v) (put_viewed r.view w) (λ e x is. absurd (n e));
    }

    one_cell : q.cell ≡ r.cell → ((u : Val) (p s : List ℕ) → slice_get cells r.cell ≡ Some u → path_of q.view u ≡ Ok p → path_of r.view u ≡ Ok s → Apart p s) → Independent cells q r v w a
    one_cell same h =
        let kr = kept-is cells r k in
        let b = kr.held_value in
        let two = two-paths cells q r a b hq kr.holds same h in
        let c = put-cell cells q v a s tv hq fa in
        let cq : c.cell ≡ two.cell = same_Some c.cell two.cell (sym c.there ∙ two.there) in
        let pq : c.path ≡ two.one = let e : ◌≡◌ {A = Outcome (List ℕ)} (Ok c.path) (Ok two.one) = sym c.leads ∙ ap (path_of q.view) cq ∙ two.leads_one in cc in
        record {
          held_two = held-same-cell cells q r v a b two.two s tv c fa same (ap (path_of r.view) cq ∙ two.leads_two) (ap (value_at two.two) cq ∙ two.stands_two) (subst (λ (p : List ℕ). Apart p two.two) (sym pq) two.apart) ∙ sym kr.holds;
          held_one = λ old hr f.
              let d = put-cell cells r w old s tw hr f in
              let cr : d.cell ≡ two.cell = same_Some d.cell two.cell (sym d.there ∙ ap (slice_get cells) (sym same) ∙ two.there) in
              let pr : d.path ≡ two.two = let e : ◌≡◌ {A = Outcome (List ℕ)} (Ok d.path) (Ok two.two) = sym d.leads ∙ ap (path_of r.view) cr ∙ two.leads_two in cc in
              held-same-cell cells r q w old a two.one s tw d f (sym same) (ap (path_of q.view) cr ∙ two.leads_one) (ap (value_at two.one) cr ∙ two.stands_one) (subst (λ (p : List ℕ). Apart p two.one) (sym pr) (begins-back two.one two.two two.apart)) ∙ sym hq;
          commute = λ old hr f. at-both cells q.cell r.cell (put_viewed q.view v) (put_viewed r.view w) (λ e x is.
              let d = put-cell cells r w old s tw hr f in
              let ex : two.cell ≡ x = same_Some two.cell x (sym two.there ∙ is) in
              subst (λ (u : Val). put_viewed r.view w (put_viewed q.view v u) ≡ put_viewed q.view v (put_viewed r.view w u)) ex (in-cell two old hr f));
        }
      where
        -- the view of a put at another path
        put-at-path : (steps : List Step) (u z : Val) (p : List ℕ) → path_of steps z ≡ Ok p → put_viewed steps u z ≡ put_tree p u z
        put-at-path steps u z p e = ap (λ (o : Outcome (List ℕ)). elim o [ Ok q ↦ put_tree q u z | Err x ↦ z ]) e

        in-cell : (two : TwoPaths cells q r a (kept-is cells r k).held_value) (old : Val) → held cells r ≡ Ok old → fits w old ≡ true
            → put_viewed r.view w (put_viewed q.view v two.cell) ≡ put_viewed q.view v (put_viewed r.view w two.cell)
        in-cell two old hr f =
            let x = two.cell in
            let sx = sound-at cells cells q.cell x s two.there in
            let b = (kept-is cells r k).held_value in
            let old_is : b ≡ old = let e : ◌≡◌ {A = Outcome Val} (Ok b) (Ok old) = sym (kept-is cells r k).holds ∙ hr in cc in
            let stands : value_at two.two x ≡ Some old = two.stands_two ∙ ap Some old_is in
            let fit_v : FitsPlace v a = (fits-Decides v a).0 fa in
            let like_v = fits-like v a tv (part-storable two.one x a sx.0 two.stands_one) fit_v in
            let fit_w : FitsPlace w old = (fits-Decides w old).0 f in
            let like_w = fits-like w old tw (part-storable two.two x old sx.0 stands) fit_w in
            let after_v = path-like r.view x (put_tree two.one v x) two.two (put-like two.one v x a two.stands_one like_v) ((a_part_replaced two.one x v a sx.0 two.stands_one tv fit_v.0).storable) two.leads_two in
            let after_w = path-like q.view x (put_tree two.two w x) two.one (put-like two.two w x old stands like_w) ((a_part_replaced two.two x w old sx.0 stands tw fit_w.0).storable) two.leads_one in
            ap (put_viewed r.view w) (put-at-path q.view v x two.one two.leads_one) ∙ put-at-path r.view w (put_tree two.one v x) two.two after_v
            ∙ puts-commute two.one two.two v w x two.apart
            ∙ sym (ap (put_viewed q.view v) (put-at-path r.view w x two.two two.leads_two) ∙ put-at-path q.view v (put_tree two.two w x) two.one after_w)

    by : Dec (q.cell ≡ r.cell) → AreApart cells q r → Independent cells q r v w a
    by (no n) h = other n
    by (yes e) (inl n) = absurd (n e)
    by (yes e) (inr h) = one_cell e h

-- ---- the law

-- a write, by what the reference holds
writes : (cells : List Val) (r : Reference) (w : Val) (o : Outcome Val) → held cells r ≡ o
    → written cells r w ≡ and_then (if can_write r.access then and_then o (λ u. if fits w u then Ok u else Err (write_ref_type (type_of w) r.ty)) else Err not_write) (λ old. Ok (put_cells cells r w))
writes cells r w o e = ap (λ (x : Outcome Val). and_then (if can_write r.access then and_then x (λ u. if fits w u then Ok u else Err (write_ref_type (type_of w) r.ty)) else Err not_write) (λ old. Ok (put_cells cells r w))) e

pub apart-commute : WritesApartCommute
apart-commute cells one q r v w s kr hv hw apart e = (both, first)
  where
    acc : IsWrite cells one q v
    acc = write-is cells one q v e

    ind : Independent cells q r v w acc.old
    ind = independent cells q r v w acc.old s kr hv hw apart acc.is.holds acc.is.fit

    first : held one r ≡ held cells r
    first = ap (λ (cs : List Val). held cs r) (sym acc.put) ∙ ind.held_two

    Row : Outcome Val → Type 0
    Row o = and_then o (λ old. Ok (put_cells one r w)) ≡ and_then (and_then o (λ old. Ok (put_cells cells r w))) (λ between. written between q v)

    again : (old : Val) → held cells r ≡ Ok old → fits w old ≡ true → ◌≡◌ {A = Outcome (List Val)} (Ok (put_cells one r w)) (written (put_cells cells r w) q v)
    again old h f =
        let still : held (put_cells cells r w) q ≡ Ok acc.old = ind.held_one old h f ∙ acc.is.holds in
        ap Ok (ap (λ (cs : List Val). put_cells cs r w) (sym acc.put) ∙ ind.commute old h f) ∙ sym (accepts (put_cells cells r w) q v acc.old acc.is.writable still acc.is.fit)

    row : (b : Bool) (o : Outcome Val) → held cells r ≡ o → Row (if b then and_then o (λ u. if fits w u then Ok u else Err (write_ref_type (type_of w) r.ty)) else Err not_write)
    row true (Ok u) h = on (fits w u) refl
      where
        on : (c : Bool) → fits w u ≡ c → Row (if c then Ok u else Err (write_ref_type (type_of w) r.ty))
        on true f = again u h f
        on false f = refl
    row true (Err x) h = refl
    row false o h = refl

    both : and_then (written cells q v) (λ between. written between r w) ≡ and_then (written cells r w) (λ between. written between q v)
    both = ap (λ (o : Outcome (List Val)). and_then o (λ between. written between r w)) e ∙ writes one r w (held cells r) first ∙ row (can_write r.access) (held cells r) refl
