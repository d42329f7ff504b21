-- What keeps cells sound and references kept: a new cell, a put that fits; and which references and values are
-- kept that calls on a reference answer.
use Rattle.std.proofs.Common.{◌≡◌, ◌⊎◌, ℕ, zero, suc, List, [], ◌∷◌, ◌++◌, length, slice_get, Some, Ok, Err, Bool, true, false, if◌then◌else◌, refl, sym, ap, ◌∙◌, subst}
use mathlib.Core.Logic.{inl, inr}
use Rattle.wgsl_rules.specs.Access.{can_read, can_write}
use Rattle.wgsl_rules.specs.Types.{Ty, ref}
use Rattle.wgsl_rules.specs.Values.{Step, Reference, Val, record_of, array_of, vector, matrix, reference, Vals, no_vals, val, item, type_of, IsStorable}
use Rattle.wgsl_rules.specs.declared.syntax.AddressSpace.{AddressSpace}
use Rattle.wgsl_rules.specs.declared.syntax.AccessMode.{AccessMode}
use Rattle.wgsl_rules.specs.Refusals.{Refusal, not_read, write_ref_type, Outcome, and_then}
use Rattle.wgsl_rules.specs.Paths.{parts, stepped, viewed, replace_item, with_parts, put_tree, put_viewed, fits, FitsPlace}
use Rattle.wgsl_rules.proofs.lemmas.Paths.{fits-Decides}
use Rattle.wgsl_rules.proofs.lemmas.Slices.{slice_get-append}
use Rattle.wgsl_values.proofs.lemmas.Replaced.{a_part_replaced, part-storable}
use Rattle.wgsl_values.proofs.lemmas.ViewedPaths.{has-path}
use Rattle.wgsl_store.specs.Memory.{held, IsKept, AllKept, references, references_in, HoldsValue, IsContent, AreContents, IsSound, at_position, put_cells}
use Rattle.wgsl_store.specs.ReferenceCalls.{going_on, read, deeper, old_value, read_on, load, loaded, whole_of_new}
use Rattle.wgsl_store.specs.MemoryLaws.{StaysKept, ANewCellKeepsReferences}
use Rattle.wgsl_layout.proofs.lemmas.Alike.{IsLike, put-like, fits-like}
use Rattle.wgsl_layout.proofs.lemmas.LikeViews.{view-like}
use Rattle.wgsl_store.proofs.lemmas.Held.{has-cell, sound-at, Kept, kept-of, kept-is, kept-first, kept-second, kept-parts, kept-item, held-value}

-- ---- references that are kept

-- each reference that is kept in the one is kept in the other
abbrev pub Keeps : List Val → List Val → Type 0
Keeps cells after = (r : Reference) → IsKept cells r → IsKept after r

pub all-keep : (cells after : List Val) (rs : List Reference) → Keeps cells after → AllKept cells rs → AllKept after rs
all-keep cells after [] k h = tt
all-keep cells after (r ∷ rs) k h = (k r h.0, all-keep cells after rs k h.1)

pub values-keep : (cells after vs : List Val) → Keeps cells after → AreContents cells vs → AreContents after vs
values-keep cells after [] k h = tt
values-keep cells after (v ∷ vs) k h = ((h.0.0, all-keep cells after (references v) k h.0.1), values-keep cells after vs k h.1)

pub kept-append : (cells : List Val) (qs rs : List Reference) → AllKept cells qs → AllKept cells rs → AllKept cells (qs ++ rs)
kept-append cells [] rs h k = k
kept-append cells (q ∷ qs) rs h k = (h.0, kept-append cells qs rs h.1 k)

-- ---- a new cell

pub append-last : (cells : List Val) (v : Val) → slice_get (cells ++ v ∷ []) (length cells) ≡ Some v
append-last [] v = refl
append-last (y ∷ ys) v = append-last ys v

pub append-keeps : (cells : List Val) (v : Val) → Keeps cells (cells ++ v ∷ [])
append-keeps cells v r k = let h = kept-is cells r k in kept-of (cells ++ v ∷ []) r h.at_cell.cell h.held_value (slice_get-append cells (v ∷ []) r.cell h.at_cell.cell h.at_cell.there) h.at_cell.leads h.typed

pub append-held : (all cells : List Val) (v : Val) → AreContents all cells → IsContent all v → AreContents all (cells ++ v ∷ [])
append-held all [] v h k = (k, tt)
append-held all (y ∷ ys) v h k = (h.0, append-held all ys v h.1 k)

-- a new cell keeps cells sound, and its reference is kept
pub append-sound : (cells : List Val) (v : Val) → IsSound cells → IsContent cells v → IsSound (cells ++ v ∷ [])
append-sound cells v s h = values-keep cells (cells ++ v ∷ []) (cells ++ v ∷ []) (append-keeps cells v) (append-held cells cells v s h)

pub whole-kept-new : (cells : List Val) (v : Val) (space : AddressSpace) (access : AccessMode) → IsKept (cells ++ v ∷ []) (whole_of_new cells v space access)
whole-kept-new cells v space access = kept-of (cells ++ v ∷ []) (whole_of_new cells v space access) v v (append-last cells v) refl refl

pub new-cell-keeps : ANewCellKeepsReferences
new-cell-keeps cells v space access s h = (record { sound = append-sound cells v s h; keeps = append-keeps cells v }, whole-kept-new cells v space access)

-- ---- a put

pub at-there : (cells : List Val) (i j : ℕ) (g : Val → Val) (x : Val) → slice_get cells j ≡ Some x
    → (slice_get (at_position i g cells) j ≡ Some x) ⊎ ((i ≡ j) × (slice_get (at_position i g cells) j ≡ Some (g x)))
at-there [] i j g x e = absurd (cc)
at-there (y ∷ ys) zero zero g x e = inr (refl, let same : y ≡ x = cc in ap (λ (z : Val). Some (g z)) same)
at-there (y ∷ ys) zero (suc j) g x e = inl e
at-there (y ∷ ys) (suc i) zero g x e = inl e
at-there (y ∷ ys) (suc i) (suc j) g x e = on (at-there ys i j g x e)
  where
    on : (slice_get (at_position i g ys) j ≡ Some x) ⊎ ((i ≡ j) × (slice_get (at_position i g ys) j ≡ Some (g x))) → (slice_get (at_position i g ys) j ≡ Some x) ⊎ ((suc i ≡ suc j) × (slice_get (at_position i g ys) j ≡ Some (g x)))
    on (inl a) = inl a
    on (inr b) = inr (ap suc b.0, b.1)

at-held : (all cells : List Val) (i : ℕ) (g : Val → Val) → AreContents all cells → ((x : Val) → slice_get cells i ≡ Some x → IsContent all (g x)) → AreContents all (at_position i g cells)
at-held all [] i g h k = tt
at-held all (y ∷ ys) zero g h k = (k y refl, h.1)
at-held all (y ∷ ys) (suc i) g h k = (h.0, at-held all ys i g h.1 k)

put-keeps : (cells : List Val) (i : ℕ) (g : Val → Val) (x : Val) → slice_get cells i ≡ Some x → IsLike x (g x) → IsStorable (g x) → Keeps cells (at_position i g cells)
put-keeps cells i g x e like t r k = by (at-there cells i r.cell g h.at_cell.cell h.at_cell.there)
  where
    h : Kept cells r
    h = kept-is cells r k

    by : (slice_get (at_position i g cells) r.cell ≡ Some h.at_cell.cell) ⊎ ((i ≡ r.cell) × (slice_get (at_position i g cells) r.cell ≡ Some (g h.at_cell.cell))) → IsKept (at_position i g cells) r
    by (inl a) = kept-of (at_position i g cells) r h.at_cell.cell h.held_value a h.at_cell.leads h.typed
    by (inr b) =
        let same_cell : Some x ≡ Some h.at_cell.cell = sym e ∙ ap (slice_get cells) b.0 ∙ h.at_cell.there in
        let same : x ≡ h.at_cell.cell = cc in
        let leads : viewed r.view x ≡ Ok h.held_value = ap (viewed r.view) same ∙ h.at_cell.leads in
        let l = view-like r.view x (g x) h.held_value like t leads in
        kept-of (at_position i g cells) r (g x) l.other (b.1 ∙ ap (λ (z : Val). Some (g z)) (sym same)) l.leads (sym l.typed ∙ h.typed)

replaced-kept : (cells : List Val) (i : ℕ) (f : Val → Val) (vs : Vals) → AllKept cells (references_in vs) → ((y : Val) → item i vs ≡ Some y → AllKept cells (references (f y))) → AllKept cells (references_in (replace_item i f vs))
replaced-kept cells i f no_vals h k = tt
replaced-kept cells zero f (val v vs) h k = kept-append cells (references (f v)) (references_in vs) (k v refl) (kept-second cells (references v) (references_in vs) h)
replaced-kept cells (suc i) f (val v vs) h k =
    kept-append cells (references v) (references_in (replace_item i f vs)) (kept-first cells (references v) (references_in vs) h)
    (replaced-kept cells i f vs (kept-second cells (references v) (references_in vs) h) k)

whole-kept : (cells : List Val) (i : ℕ) (f : Val → Val) (v : Val) → AllKept cells (references v) → ((y : Val) → item i (parts v) ≡ Some y → AllKept cells (references (f y))) → AllKept cells (references (with_parts v (replace_item i f (parts v))))
whole-kept cells i f (record_of t vs) h k = replaced-kept cells i f vs h k
whole-kept cells i f (array_of runtime vs) h k = replaced-kept cells i f vs h k
whole-kept cells i f (vector vs) h k = replaced-kept cells i f vs h k
whole-kept cells i f (matrix vs) h k = replaced-kept cells i f vs h k
whole-kept cells i f v h k = h

pub put-kept : (cells : List Val) (p : List ℕ) (w v : Val) → AllKept cells (references v) → AllKept cells (references w) → AllKept cells (references (put_tree p w v))
put-kept cells [] w v h k = k
put-kept cells (i ∷ p) w v h k = whole-kept cells i (put_tree p w) v h (λ y is. put-kept cells p w y (kept-item cells i (parts v) y (kept-parts cells v h) is) k)

-- after an accepted put the cells are sound, and references stay kept
pub put-good : (cells : List Val) (r : Reference) (w old : Val) → IsSound cells → IsContent cells w → held cells r ≡ Ok old → fits w old ≡ true → StaysKept cells (put_cells cells r w)
put-good cells r w old s hw e f =
    let c = has-cell cells r old e in
    let x = c.cell in
    let sound = sound-at cells cells r.cell x s c.there in
    let p = has-path r.view x old c.leads in
    let so = part-storable p.path x old sound.0 p.stands in
    let fit : FitsPlace w old = (fits-Decides w old).0 f in
    let like = fits-like w old hw.0 so fit in
    let put_is : put_viewed r.view w x ≡ put_tree p.path w x = ap (λ (o : Outcome (List ℕ)). elim o [ Ok q ↦ put_tree q w x | Err r ↦ x ]) p.there in
    let alike = subst (IsLike x) (sym put_is) (put-like p.path w x old p.stands like) in
    let storable = subst IsStorable (sym put_is) ((a_part_replaced p.path x w old sound.0 p.stands hw.0 fit.0).storable) in
    let kept = subst (λ (v : Val). AllKept cells (references v)) (sym put_is) (put-kept cells p.path w x sound.1 hw.1) in
    let keeps : Keeps cells (put_cells cells r w) = put-keeps cells r.cell (put_viewed r.view w) x c.there alike storable in
    let held_all = at-held cells cells r.cell (put_viewed r.view w) s (λ z is. let same : Some x ≡ Some z = sym c.there ∙ is in let eq : x ≡ z = cc in subst (λ (u : Val). IsContent cells (put_viewed r.view w u)) eq (storable, kept)) in
    record { sound = values-keep cells (put_cells cells r w) (put_cells cells r w) keeps held_all; keeps = keeps }

-- ---- a write that is accepted

pub record IsAccepted (cells : List Val) (r : Reference) (w old : Val) : Type 0 where
  pub writable : can_write r.access ≡ true
  pub holds : held cells r ≡ Ok old
  pub fit : fits w old ≡ true

pub accepted : (refusal : Refusal) (cells : List Val) (r : Reference) (w old : Val) → old_value refusal (held cells) r w ≡ Ok old → IsAccepted cells r w old
accepted refusal cells r w old e = by (can_write r.access) refl (held cells r) refl e
  where
    fitting : (y : Val) → can_write r.access ≡ true → held cells r ≡ Ok y → (b : Bool) → fits w y ≡ b → (if b then Ok y else Err (write_ref_type (type_of w) r.ty)) ≡ Ok old → IsAccepted cells r w old
    fitting y c is true f e = let same : y ≡ old = cc in record { writable = c; holds = is ∙ ap Ok same; fit = ap (fits w) (sym same) ∙ f }
    fitting y c is false f e = absurd (cc)

    by : (b : Bool) → can_write r.access ≡ b → (o : Outcome Val) → held cells r ≡ o → (if b then and_then o (λ v. if fits w v then Ok v else Err (write_ref_type (type_of w) r.ty)) else Err refusal) ≡ Ok old → IsAccepted cells r w old
    by true c (Ok y) is e = fitting y c is (fits w y) refl e
    by true c (Err x) is e = absurd (cc)
    by false c o is e = absurd (cc)

-- the cells after it are sound, and each reference stays kept
pub accepted-good : (refusal : Refusal) (cells : List Val) (r : Reference) (w old : Val) → IsSound cells → IsContent cells w → old_value refusal (held cells) r w ≡ Ok old → StaysKept cells (put_cells cells r w)
accepted-good refusal cells r w old s hw e = let a = accepted refusal cells r w old e in put-good cells r w old s hw a.holds a.fit

-- ---- one step deeper

viewed-append : (a b : List Step) (v : Val) → viewed (a ++ b) v ≡ and_then (viewed a v) (viewed b)
viewed-append [] b v = refl
viewed-append (s ∷ a) b v = by (stepped s v) (λ x. viewed-append a b x)
  where
    by : (o : Outcome (ℕ × Val)) → ((x : Val) → viewed (a ++ b) x ≡ and_then (viewed a x) (viewed b)) → and_then o (λ p. viewed (a ++ b) p.1) ≡ and_then (and_then o (λ p. viewed a p.1)) (viewed b)
    by (Ok p) f = f p.1
    by (Err e) f = refl

-- the reference that is answered is kept
pub deeper-kept : (cells : List Val) (r q : Reference) (st : Step) → deeper (held cells) r st ≡ Ok q → IsKept cells q
deeper-kept cells r q st e = by (can_read r.access) (held cells r) refl e
  where
    part : (v : Val) → held cells r ≡ Ok v → (o : Outcome Val) → viewed (st ∷ []) v ≡ o → and_then o (λ x. Ok (going_on r (st ∷ []) (type_of x))) ≡ Ok q → IsKept cells q
    part v is (Err x) leads e = absurd (cc)
    part v is (Ok x) leads e =
        let same : going_on r (st ∷ []) (type_of x) ≡ q = cc in
        let c = has-cell cells r v is in
        subst (IsKept cells) same (kept-of cells (going_on r (st ∷ []) (type_of x)) c.cell x c.there (viewed-append r.view (st ∷ []) c.cell ∙ ap (λ (o : Outcome Val). and_then o (viewed (st ∷ []))) c.leads ∙ leads) refl)

    by : (b : Bool) (o : Outcome Val) → held cells r ≡ o → and_then (if b then o else Err not_read) (λ v. and_then (viewed (st ∷ []) v) (λ x. Ok (going_on r (st ∷ []) (type_of x)))) ≡ Ok q → IsKept cells q
    by true (Ok v) is e = part v is (viewed (st ∷ []) v) refl e
    by true (Err x) is e = absurd (cc)
    by false o is e = absurd (cc)

-- ---- what is read

-- it may be put into a cell again
pub read-content : (cells : List Val) (r : Reference) (v : Val) → IsSound cells → read (held cells) r ≡ Ok v → IsContent cells v
read-content cells r v s e = by (can_read r.access) e
  where
    by : (b : Bool) → (if b then held cells r else Err not_read) ≡ Ok v → IsContent cells v
    by true e = held-value cells r v s e
    by false e = absurd (cc)

-- so may what is loaded
pub load-content : (cells : List Val) (t : Ty) (r : Reference) (v : Val) → IsSound cells → load (held cells) t r ≡ Ok v → IsContent cells v
load-content cells (ref space t access) r v s e = by (read (held cells) r) refl e (λ q. load-content cells t q v s)
  where
    on : (y : Val) → IsContent cells y → read_on (load (held cells) t) y ≡ Ok v → ((q : Reference) → load (held cells) t q ≡ Ok v → IsContent cells v) → IsContent cells v
    on (reference q) h e f = f q e
    on y h e f = let same : y ≡ v = cc in subst (IsContent cells) same h

    by : (o : Outcome Val) → read (held cells) r ≡ o → and_then o (read_on (load (held cells) t)) ≡ Ok v → ((q : Reference) → load (held cells) t q ≡ Ok v → IsContent cells v) → IsContent cells v
    by (Ok y) is e f = on y (read-content cells r y s is) e f
    by (Err x) is e f = absurd (cc)
load-content cells t r v s e = read-content cells r v s e

-- a value that is held is held once it is loaded
pub loaded-held : (cells : List Val) (v w : Val) → IsSound cells → HoldsValue cells v → loaded (held cells) v ≡ Ok w → HoldsValue cells w
loaded-held cells (reference r) w s h e = (load-content cells r.ty r w s e).1
loaded-held cells v w s h e = let same : v ≡ w = cc in subst (HoldsValue cells) same h
