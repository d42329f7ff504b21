-- A write keeps references; what is written is read; what was read is written back and nothing changes; the last
-- write stands.
use Rattle.std.proofs.Common.{◌≡◌, ℕ, zero, suc, List, [], ◌∷◌, slice_get, Option, Some, is_some, option_and_then, Ok, Err, Bool, true, false, if◌then◌else◌, refl, sym, ap, ◌∙◌, subst}
use Rattle.wgsl_rules.specs.Access.{can_read, can_write}
use Rattle.wgsl_rules.specs.Values.{Reference, Val, Vals, no_vals, val, item, type_of, IsStorable}
use Rattle.wgsl_rules.specs.Refusals.{not_read, not_write, write_ref_type, Outcome, and_then}
use Rattle.wgsl_rules.specs.Paths.{parts, value_at, path_of, viewed, replace_item, with_parts, put_tree, put_viewed, fits, or_refused, FitsPlace}
use Rattle.wgsl_rules.proofs.lemmas.Paths.{fits-Decides, put-held}
use Rattle.wgsl_values.proofs.lemmas.PutTwice.{put-twice}
use Rattle.wgsl_values.proofs.lemmas.Replaced.{a_part_replaced, part-storable}
pub use Rattle.wgsl_values.proofs.lemmas.Steps.{with_parts-own as own-parts}
use Rattle.wgsl_values.proofs.lemmas.ViewedPaths.{has-path}
use Rattle.wgsl_store.specs.Memory.{held, IsSound, at_position, put_cells}
use Rattle.wgsl_store.specs.ReferenceCalls.{read, old_value, written}
use Rattle.wgsl_store.specs.MemoryLaws.{StaysKept, AWriteKeepsReferences, AWriteIsRead, AReadIsWrittenBack, TheLastWriteStands}
use Rattle.wgsl_layout.proofs.lemmas.ViewedPaths.{leads-to}
use Rattle.wgsl_store.proofs.lemmas.Held.{has-cell, sound-at}
use Rattle.wgsl_layout.proofs.lemmas.Alike.{put-like, fits-like}
use Rattle.wgsl_layout.proofs.lemmas.LikeViews.{path-like}
use Rattle.wgsl_store.proofs.lemmas.Sound.{IsAccepted, accepted, put-good}

-- ---- an accepted write

pub record IsWrite (cells after : List Val) (r : Reference) (w : Val) : Type 0 where
  pub old : Val
  pub is : IsAccepted cells r w old
  pub put : put_cells cells r w ≡ after

pub write-is : (cells after : List Val) (r : Reference) (w : Val) → written cells r w ≡ Ok after → IsWrite cells after r w
write-is cells after r w e = by (old_value not_write (held cells) r w) refl e
  where
    by : (o : Outcome Val) → old_value not_write (held cells) r w ≡ o → and_then o (λ old. Ok (put_cells cells r w)) ≡ Ok after → IsWrite cells after r w
    by (Ok y) is e = record { old = y; is = accepted not_write cells r w y is; put = cc }
    by (Err x) is e = absurd (cc)

pub write-keeps : AWriteKeepsReferences
write-keeps cells after r w s h e = let a = write-is cells after r w e in subst (StaysKept cells) a.put (put-good cells r w a.old s h a.is.holds a.is.fit)

pub accepts : (cells : List Val) (r : Reference) (w old : Val) → can_write r.access ≡ true → held cells r ≡ Ok old → fits w old ≡ true → written cells r w ≡ Ok (put_cells cells r w)
accepts cells r w old c h f =
    ap (λ (b : Bool). and_then (if b then and_then (held cells r) (λ v. if fits w v then Ok v else Err (write_ref_type (type_of w) r.ty)) else Err not_write) (λ old. Ok (put_cells cells r w))) c
    ∙ ap (λ (o : Outcome Val). and_then (and_then o (λ v. if fits w v then Ok v else Err (write_ref_type (type_of w) r.ty))) (λ old. Ok (put_cells cells r w))) h
    ∙ ap (λ (b : Bool). and_then (if b then Ok old else Err (write_ref_type (type_of w) r.ty)) (λ old. Ok (put_cells cells r w))) f

pub at-own : (cells : List Val) (i : ℕ) (g : Val → Val) (x : Val) → slice_get cells i ≡ Some x → slice_get (at_position i g cells) i ≡ Some (g x)
at-own [] i g x e = absurd (cc)
at-own (y ∷ ys) zero g x e = let same : y ≡ x = cc in ap (λ (z : Val). Some (g z)) same
at-own (y ∷ ys) (suc i) g x e = at-own ys i g x e

-- a cell after a put: its tree, and the path of the view in it
pub record PutCell (cells : List Val) (r : Reference) (w old : Val) : Type 0 where
  pub cell : Val
  pub there : slice_get cells r.cell ≡ Some cell
  pub path : List ℕ
  pub leads : path_of r.view cell ≡ Ok path
  pub stands : value_at path cell ≡ Some old
  pub put : put_viewed r.view w cell ≡ put_tree path w cell
  pub leads_after : path_of r.view (put_tree path w cell) ≡ Ok path

pub put-cell : (cells : List Val) (r : Reference) (w old : Val) → IsSound cells → IsStorable w → held cells r ≡ Ok old → fits w old ≡ true → PutCell cells r w old
put-cell cells r w old s t h f =
    let c = has-cell cells r old h in
    let sound = sound-at cells cells r.cell c.cell s c.there in
    let p = has-path r.view c.cell old c.leads in
    let fit : FitsPlace w old = (fits-Decides w old).0 f in
    let like = fits-like w old t (part-storable p.path c.cell old sound.0 p.stands) fit in
    record {
      cell = c.cell;
      there = c.there;
      path = p.path;
      leads = p.there;
      stands = p.stands;
      put = ap (λ (o : Outcome (List ℕ)). elim o [ Ok q ↦ put_tree q w c.cell | Err e ↦ c.cell ]) p.there;
      leads_after = path-like r.view c.cell (put_tree p.path w c.cell) p.path (put-like p.path w c.cell old p.stands like) ((a_part_replaced p.path c.cell w old sound.0 p.stands t fit.0).storable) p.there;
    }

pub held-after : (cells : List Val) (r : Reference) (w old : Val) → IsSound cells → IsStorable w → held cells r ≡ Ok old → fits w old ≡ true → held (put_cells cells r w) r ≡ Ok w
held-after cells r w old s t h f =
    let c = put-cell cells r w old s t h f in
    let stands = put-held c.path w c.cell (ap (λ (o : Option Val). is_some o) c.stands) in
    ap (λ (o : Option Val). and_then (or_refused o not_read) (viewed r.view)) (at-own cells r.cell (put_viewed r.view w) c.cell c.there)
    ∙ ap (viewed r.view) c.put ∙ leads-to r.view (put_tree c.path w c.cell) w c.path c.leads_after stands

pub write-is-read : AWriteIsRead
write-is-read cells after r w s h c e =
    let a = write-is cells after r w e in
    ap (λ (b : Bool). if b then held after r else Err not_read) c ∙ ap (λ (cs : List Val). held cs r) (sym a.put) ∙ held-after cells r w a.old s h a.is.holds a.is.fit

-- ---- what was read is written back

pub replaced-own : (i : ℕ) (f : Val → Val) (vs : Vals) → ((y : Val) → item i vs ≡ Some y → f y ≡ y) → replace_item i f vs ≡ vs
replaced-own i f no_vals h = refl
replaced-own zero f (val v vs) h = ap (λ (u : Val). val u vs) (h v refl)
replaced-own (suc i) f (val v vs) h = ap (val v) (replaced-own i f vs h)

pub put-own : (p : List ℕ) (x v : Val) → value_at p v ≡ Some x → put_tree p x v ≡ v
put-own [] x v e = cc
put-own (i ∷ p) x v e =
    ap (with_parts v) (replaced-own i (put_tree p x) (parts v) (λ y is. put-own p x y (ap (option_and_then (value_at p)) (sym is) ∙ e))) ∙ own-parts v

at-same : (cells : List Val) (i : ℕ) (g : Val → Val) → ((x : Val) → slice_get cells i ≡ Some x → g x ≡ x) → at_position i g cells ≡ cells
at-same [] i g h = refl
at-same (y ∷ ys) zero g h = ap (λ (z : Val). z ∷ ys) (h y refl)
at-same (y ∷ ys) (suc i) g h = ap (λ (zs : List Val). y ∷ zs) (at-same ys i g h)

pub read-holds : (cells : List Val) (r : Reference) (v : Val) → read (held cells) r ≡ Ok v → held cells r ≡ Ok v
read-holds cells r v e = by (can_read r.access) e
  where
    by : (b : Bool) → (if b then held cells r else Err not_read) ≡ Ok v → held cells r ≡ Ok v
    by true e = e
    by false e = absurd (cc)

pub fits-own : (v : Val) → fits v v ≡ true
fits-own v = (fits-Decides v v).1 (refl, λ p. refl)

pub written-back : AReadIsWrittenBack
written-back cells r v c e =
    let h = read-holds cells r v e in
    let at = has-cell cells r v h in
    let p = has-path r.view at.cell v at.leads in
    let own : put_viewed r.view v at.cell ≡ at.cell = ap (λ (o : Outcome (List ℕ)). elim o [ Ok q ↦ put_tree q v at.cell | Err e ↦ at.cell ]) p.there ∙ put-own p.path v at.cell p.stands in
    accepts cells r v v c h (fits-own v)
    ∙ ap Ok (at-same cells r.cell (put_viewed r.view v) (λ x is. let same : Some at.cell ≡ Some x = sym at.there ∙ is in let eq : at.cell ≡ x = cc in subst (λ (u : Val). put_viewed r.view v u ≡ u) eq own))

-- ---- the last write stands

pub at-twice : (cells : List Val) (i : ℕ) (f g : Val → Val) → ((x : Val) → g (f x) ≡ g x) → at_position i g (at_position i f cells) ≡ at_position i g cells
at-twice [] i f g k = refl
at-twice (y ∷ ys) zero f g k = ap (λ (z : Val). z ∷ ys) (k y)
at-twice (y ∷ ys) (suc i) f g k = ap (λ (zs : List Val). y ∷ zs) (at-twice ys i f g k)

-- what fits the one of two values that fit one another fits the other
fits-same : (u v w : Val) → fits v u ≡ true → fits w v ≡ fits w u
fits-same u v w e = by (fits w v) refl (fits w u) refl
  where
    fit : FitsPlace v u
    fit = (fits-Decides v u).0 e

    to : fits w v ≡ true → fits w u ≡ true
    to h = let k : FitsPlace w v = (fits-Decides w v).0 h in (fits-Decides w u).1 (k.0 ∙ fit.0, λ p. k.1 p ∙ fit.1 p)

    from : fits w u ≡ true → fits w v ≡ true
    from h = let k : FitsPlace w u = (fits-Decides w u).0 h in (fits-Decides w v).1 (k.0 ∙ sym fit.0, λ p. k.1 p ∙ sym (fit.1 p))

    by : (a : Bool) → fits w v ≡ a → (b : Bool) → fits w u ≡ b → a ≡ b
    by true f b g = sym (to f) ∙ g
    by false f true g = sym f ∙ from g
    by false f false g = refl

pub last-write-stands : TheLastWriteStands
last-write-stands cells between r v w s t e = by (write-is cells between r v e)
  where
    writes : (cs : List Val) (old : Val) → held cs r ≡ Ok old
        → written cs r w ≡ and_then (if can_write r.access then (if fits w old then Ok old else Err (write_ref_type (type_of w) r.ty)) else Err not_write) (λ old. Ok (put_cells cs r w))
    writes cs old h = ap (λ (o : Outcome Val). and_then (if can_write r.access then and_then o (λ u. if fits w u then Ok u else Err (write_ref_type (type_of w) r.ty)) else Err not_write) (λ old. Ok (put_cells cs r w))) h

    -- the two writes, whether they are accepted or not, as what they put is the same
    alike : (a b : List Val) (x y : Val) → a ≡ b → (c f : Bool)
        → and_then (if c then (if f then Ok x else Err (write_ref_type (type_of w) r.ty)) else Err not_write) (λ old. Ok a)
        ≡ and_then (if c then (if f then Ok y else Err (write_ref_type (type_of w) r.ty)) else Err not_write) (λ old. Ok b)
    alike a b x y e true true = ap Ok e
    alike a b x y e true false = refl
    alike a b x y e false f = refl

    by : IsWrite cells between r v → written between r w ≡ written cells r w
    by a =
        let now : held between r ≡ Ok v = ap (λ (cs : List Val). held cs r) (sym a.put) ∙ held-after cells r v a.old s t a.is.holds a.is.fit in
        let twice : put_cells between r w ≡ put_cells cells r w = ap (λ (cs : List Val). put_cells cs r w) (sym a.put) ∙ at-twice cells r.cell (put_viewed r.view v) (put_viewed r.view w) (λ x. put-twice r.view w v x) in
        writes between v now
        ∙ ap (λ (f : Bool). and_then (if can_write r.access then (if f then Ok v else Err (write_ref_type (type_of w) r.ty)) else Err not_write) (λ old. Ok (put_cells between r w))) (fits-same a.old v w a.is.fit)
        ∙ alike (put_cells between r w) (put_cells cells r w) v a.old twice (can_write r.access) (fits w a.old)
        ∙ sym (writes cells a.old a.is.holds)
