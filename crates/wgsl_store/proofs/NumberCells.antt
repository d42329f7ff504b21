-- The cells of a store after a number is put in a scalar or an atomic inside what a reference names.
use Rattle.std.proofs.Common.{◌≡◌, ℕ, List, map, get_or, set, slice_get, Option, Some, None, Ok, Bool, true, false, refl, sym, ap, ◌∙◌, subst}
use Rattle.std.specs.Bool.{OnFalse, OnTrue}
use Rattle.std.specs.Prelude.{IsOkAnd}
use Rattle.wgsl_rules.specs.Layout.{has_layout}
use Rattle.wgsl_rules.specs.Paths.{put_tree, put_viewed, value_at, viewed}
use Rattle.wgsl_rules.specs.Refusals.{Outcome}
use Rattle.wgsl_rules.specs.Values.{Reference, Step, Val, truth, number, atomic_of, type_of, IsLiteral, IsStorable}
use Rattle.wgsl_store.specs.Copies.{in_bytes, is_bytes}
use Rattle.wgsl_layout.specs.Fitting.{FitsAt}
use Rattle.wgsl_store.specs.Memory.{held, AllKept, IsKept, IsSound, put_cells, references}
use Rattle.wgsl_store.specs.MemoryLaws.{KeepsLayouts, StaysKept}
use Rattle.wgsl_layout.specs.NumbersIn.{HasNumberAt, IsLikeNumber, IsNumberAt, number_put, with_number}
use Rattle.wgsl_store.proofs.CopiedCells.{bytes-is}
use Rattle.wgsl_layout.proofs.NumberPuts.{number-changed, some-is}
use Rattle.wgsl_layout.proofs.Outcomes.{answered}
use Rattle.wgsl_store.proofs.StoreCells.{cell-is, held-there, replaced-cells, replaced-good, same-cells}
use Rattle.wgsl_layout.proofs.lemmas.Compose.{compose}
use Rattle.wgsl_store.proofs.lemmas.Held.{has-cell, kept-is, held-value, sound-at}
use Rattle.wgsl_store.proofs.lemmas.KeptLayouts.{put-layouts}
use Rattle.wgsl_store.proofs.lemmas.Sound.{put-kept}
use Rattle.wgsl_values.proofs.lemmas.ViewedPaths.{has-path}

-- a number holds no references, nor does an atomic
no-references : (cells : List Val) (w y : Val) → IsLiteral w → IsLikeNumber w y → AllKept cells (references (with_number w y))
no-references cells (truth b) (number k z) l e = tt
no-references cells (number j x) (number k z) l e = tt
no-references cells w (atomic_of u) l e = tt
no-references cells (number j x) y l e = absurd e
no-references cells (truth b) y l e = absurd e
no-references cells w y l e = absurd l

-- it holds the references that it held
pub number-kept : (cells : List Val) (x w : Val) (path : List ℕ) (at : ℕ) → IsLiteral w → IsNumberAt x path at w → AllKept cells (references x) → AllKept cells (references (number_put path w x))
number-kept cells x w path at lit n k =
    let led = some-is (value_at path x) (IsLikeNumber w) n.there in
    let is : put_tree path (with_number w led.0) x ≡ number_put path w x = ap (λ (o : Option Val). elim o [ Some z ↦ put_tree path (with_number w z) x | None ↦ x ]) (sym led.1) in
    subst (λ (u : Val). AllKept cells (references u)) is (put-kept cells path (with_number w led.0) x k (no-references cells w led.0 lit led.2))

-- the cells after a call that says whether it put the number
pub record AreNumberCells (done : Bool) (cells after : List Val) (r : Reference) (at : ℕ) (w : Val) : Type 0 where
  pub is_put : OnTrue done ((path : List ℕ) → IsOkAnd (held cells r) (λ x. IsNumberAt x path at w → after ≡ put_cells cells r (number_put path w x)))
  pub same : OnFalse done (after ≡ cells)
  pub good : StaysKept cells after
  pub layouts : KeepsLayouts cells after

-- a part of a value that has a layout has one
part-laid : (v x : Val) (steps : List Step) → IsStorable v → has_layout (type_of v) ≡ true → viewed steps v ≡ Ok x → has_layout (type_of x) ≡ true
part-laid v x steps s h e = let q = has-path steps v x e in (compose v x q.path s h q.stands).0

pub number-among : {X : Type 0} (view : X → Val) (done : Bool) (cs : List X) (cells : List Val) (r : Reference) (i : ℕ) (new cell : X) (at : ℕ) (w : Val) → map view cs ≡ cells → IsSound cells → IsLiteral w → IsStorable w
    → IsOkAnd (held cells r) (λ x. HasNumberAt x at w) → i ≡ r.cell → cell ≡ get_or cs i cell → done ≡ is_bytes (view cell)
    → OnTrue done ((path : List ℕ) → IsOkAnd (viewed r.view (view cell)) (λ x. IsNumberAt x path at w → view new ≡ put_viewed r.view (number_put path w x) (view cell)))
    → OnFalse done (view new ≡ view cell) → AreNumberCells done cells (map view (set cs i new)) r at w
number-among view true cs cells r i new cell at w are s lit sw h there was flat put same =
    let a = answered (held cells r) (λ x. HasNumberAt x at w) h in
    let x = a.answer in
    let leads : held cells r ≡ viewed r.view (view cell) = held-there view cs cells r (λ x. HasNumberAt x at w) i cell are h there was in
    let led : viewed r.view (view cell) ≡ Ok x = sym leads ∙ a.is in
    let content = held-value cells r x s a.is in
    let own = has-cell cells r x a.is in
    let at_own : slice_get (map view cs) i ≡ Some own.cell = rw (are, there) own.there in
    let storable : IsStorable (view cell) = subst IsStorable (sym (ap view was ∙ cell-is view cs i cell own.cell at_own)) (sound-at cells cells r.cell own.cell s own.there).0 in
    let laid = part-laid (view cell) x r.view storable (sym flat) led in
    let after : (path : List ℕ) → IsNumberAt x path at w → map view (set cs i new) ≡ put_cells cells r (number_put path w x) =
    λ path n. replaced-cells view cs cells r i new cell (number_put path w x) are there was
    (subst (λ (o : Outcome Val). IsOkAnd o (λ x. IsNumberAt x path at w → view new ≡ put_viewed r.view (number_put path w x) (view cell))) led (put path) n) in
    let path = a.fact.path in
    let changed = number-changed x w path at content.0 laid lit sw a.fact.is in
    let fit : FitsAt (number_put path w x) (held cells r) = subst (FitsAt (number_put path w x)) (sym a.is) changed.fit in
    record {
      is_put = λ path. subst (λ (o : Outcome Val). IsOkAnd o (λ x. IsNumberAt x path at w → map view (set cs i new) ≡ put_cells cells r (number_put path w x))) (sym a.is) (after path);
      same = tt;
      good = replaced-good cells (map view (set cs i new)) r (number_put path w x) s (changed.storable, number-kept cells x w path at lit a.fact.is content.1) fit (after path a.fact.is);
      layouts = subst (KeepsLayouts cells) (sym (after path a.fact.is)) (put-layouts cells r (number_put path w x) x s changed.storable a.is changed.fit);
    }
number-among view false cs cells r i new cell at w are s lit sw h there was flat put same =
    let is = same-cells view cs cells i new cell are was same in
    record { is_put = tt; same = is; good = subst (λ (vs : List Val). StaysKept cells vs) (sym is) (record { sound = s; keeps = λ q k. k }); layouts = subst (KeepsLayouts cells) (sym is) (λ q k. refl) }

-- whether the cell is bytes
pub number-flat : {X : Type 0} (view : X → Val) (cs : List X) (cells : List Val) (r : Reference) (i : ℕ) (cell : X) → map view cs ≡ cells → IsKept cells r → i ≡ r.cell → cell ≡ get_or cs i cell → is_bytes (view cell) ≡ in_bytes cells r
number-flat view cs cells r i cell are k there was =
    let h = kept-is cells r k in
    let own = h.at_cell in
    let at_own : slice_get (map view cs) i ≡ Some own.cell = rw (are, there) own.there in
    let same : view cell ≡ own.cell = ap view was ∙ cell-is view cs i cell own.cell at_own in
    ap is_bytes same ∙ sym (bytes-is cells r own.cell own.there)

-- ---- what is lent of a cell

-- what is so of a part in its cell, and of whether that is bytes, is so of what the reference names
pub lent-of : {X : Type 0} (P : Bool → Val → Type 0) (view : X → Val) (cs : List X) (cells : List Val) (r : Reference) (i : ℕ) (cell : X) → map view cs ≡ cells → IsKept cells r → i ≡ r.cell → cell ≡ get_or cs i cell
    → IsOkAnd (viewed r.view (view cell)) (P (is_bytes (view cell))) → IsOkAnd (held cells r) (P (in_bytes cells r))
lent-of P view cs cells r i cell are k there was h =
    let flat = number-flat view cs cells r i cell are k there was in
    let leads : viewed r.view (view cell) ≡ held cells r = sym (held-there view cs cells r (λ v. type_of v ≡ r.ty) i cell are k there was) in
    subst (λ (o : Outcome Val). IsOkAnd o (P (in_bytes cells r))) leads (subst (λ (b : Bool). IsOkAnd (viewed r.view (view cell)) (P b)) flat h)
