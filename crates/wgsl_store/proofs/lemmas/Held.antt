-- What references hold, in cells that are sound.
use Rattle.std.proofs.Common.{◌≡◌, ℕ, zero, suc, List, [], ◌∷◌, ◌++◌, slice_get, Option, Some, None, option_and_then, Ok, Err, refl, sym, ap, ◌∙◌, subst}
use Rattle.std.proofs.lemmas.Option.{none-some, same_Some}
use Rattle.std.specs.Prelude.{IsOkAnd}
use Rattle.wgsl_rules.specs.Values.{Reference, Val, record_of, array_of, vector, matrix, Vals, no_vals, val, item, type_of}
use Rattle.wgsl_rules.specs.Refusals.{not_read, Outcome, and_then}
use Rattle.wgsl_rules.specs.Paths.{parts, value_at, viewed, or_refused}
use Rattle.wgsl_store.specs.Memory.{held, IsKept, AllKept, references, references_in, IsContent, AreContents, IsSound}
pub use Rattle.wgsl_layout.proofs.lemmas.ViewedPaths.{HasPath, has-path, leads-to}
use Rattle.wgsl_values.proofs.lemmas.Replaced.{part-storable}

-- ---- the cell of a reference

pub sound-at : (all cells : List Val) (i : ℕ) (x : Val) → AreContents all cells → slice_get cells i ≡ Some x → IsContent all x
sound-at all [] i x h e = absurd (cc)
sound-at all (y ∷ ys) zero x h e = subst (IsContent all) (same_Some y x e) (h.0)
sound-at all (y ∷ ys) (suc i) x h e = sound-at all ys i x h.1 e

-- what a reference holds, and the cell that it is in
pub record HasCell (cells : List Val) (r : Reference) (y : Val) : Type 0 where
  pub cell : Val
  pub there : slice_get cells r.cell ≡ Some cell
  pub leads : viewed r.view cell ≡ Ok y

pub has-cell : (cells : List Val) (r : Reference) (y : Val) → held cells r ≡ Ok y → HasCell cells r y
has-cell cells r y e = by (slice_get cells r.cell) refl e
  where
    by : (o : Option Val) → slice_get cells r.cell ≡ o → and_then (or_refused o not_read) (viewed r.view) ≡ Ok y → HasCell cells r y
    by None is e = absurd (cc)
    by (Some x) is e = record { cell = x; there = is; leads = e }

-- a reference is kept where its cell holds a value that its view leads to, of its type
pub kept-of : (cells : List Val) (r : Reference) (x y : Val) → slice_get cells r.cell ≡ Some x → viewed r.view x ≡ Ok y → type_of y ≡ r.ty → IsKept cells r
kept-of cells r x y e v t =
    let h : held cells r ≡ Ok y = ap (λ (o : Option Val). and_then (or_refused o not_read) (viewed r.view)) e ∙ v in
    subst (λ (o : Outcome Val). IsOkAnd o (λ z. type_of z ≡ r.ty)) (sym h) t

pub record Kept (cells : List Val) (r : Reference) : Type 0 where
  pub held_value : Val
  pub at_cell : HasCell cells r held_value
  pub typed : type_of held_value ≡ r.ty
  pub holds : held cells r ≡ Ok held_value

pub kept-is : (cells : List Val) (r : Reference) → IsKept cells r → Kept cells r
kept-is cells r k = by (held cells r) refl k
  where
    by : (o : Outcome Val) → held cells r ≡ o → IsOkAnd o (λ v. type_of v ≡ r.ty) → Kept cells r
    by (Ok y) is t = record { held_value = y; at_cell = has-cell cells r y is; typed = t; holds = is }
    by (Err e) is t = absurd t

-- each of a list of references that are kept
pub kept-in : (cells : List Val) (rs : List Reference) (i : ℕ) (r : Reference) → AllKept cells rs → slice_get rs i ≡ Some r → IsKept cells r
kept-in cells [] i r k e = absurd (none-some r e)
kept-in cells (q ∷ rs) zero r k e = subst (IsKept cells) (same_Some q r e) k.0
kept-in cells (q ∷ rs) (suc i) r k e = kept-in cells rs i r k.1 e

-- ---- what is held may be stored, and its references are kept

pub kept-first : (cells : List Val) (qs rs : List Reference) → AllKept cells (qs ++ rs) → AllKept cells qs
kept-first cells [] rs h = tt
kept-first cells (q ∷ qs) rs h = (h.0, kept-first cells qs rs h.1)

pub kept-second : (cells : List Val) (qs rs : List Reference) → AllKept cells (qs ++ rs) → AllKept cells rs
kept-second cells [] rs h = h
kept-second cells (q ∷ qs) rs h = kept-second cells qs rs h.1

pub kept-parts : (cells : List Val) (v : Val) → AllKept cells (references v) → AllKept cells (references_in (parts v))
kept-parts cells (record_of t vs) h = h
kept-parts cells (array_of runtime vs) h = h
kept-parts cells (vector vs) h = h
kept-parts cells (matrix vs) h = h
kept-parts cells v h = tt

pub kept-item : (cells : List Val) (i : ℕ) (vs : Vals) (y : Val) → AllKept cells (references_in vs) → item i vs ≡ Some y → AllKept cells (references y)
kept-item cells i no_vals y h e = absurd (cc)
kept-item cells zero (val v vs) y h e = subst (λ (u : Val). AllKept cells (references u)) (same_Some v y e) (kept-first cells (references v) (references_in vs) h)
kept-item cells (suc i) (val v vs) y h e = kept-item cells i vs y (kept-second cells (references v) (references_in vs) h) e

pub kept-at : (cells : List Val) (p : List ℕ) (x y : Val) → AllKept cells (references x) → value_at p x ≡ Some y → AllKept cells (references y)
kept-at cells [] x y h e = subst (λ (u : Val). AllKept cells (references u)) (same_Some x y e) h
kept-at cells (i ∷ p) x y h e = by (item i (parts x)) refl e (λ z k d. kept-at cells p z y k d)
  where
    by : (o : Option Val) → item i (parts x) ≡ o → option_and_then (value_at p) o ≡ Some y → ((z : Val) → AllKept cells (references z) → value_at p z ≡ Some y → AllKept cells (references y)) → AllKept cells (references y)
    by None is e on = absurd (none-some y e)
    by (Some z) is e on = on z (kept-item cells i (parts x) z (kept-parts cells x h) is) e

pub held-value : (cells : List Val) (r : Reference) (y : Val) → IsSound cells → held cells r ≡ Ok y → IsContent cells y
held-value cells r y s e =
    let c = has-cell cells r y e in
    let sound = sound-at cells cells r.cell c.cell s c.there in
    let p = has-path r.view c.cell y c.leads in
    (part-storable p.path c.cell y sound.0 p.stands, kept-at cells p.path c.cell y sound.1 p.stands)
