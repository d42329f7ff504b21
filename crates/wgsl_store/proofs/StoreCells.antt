-- The cells of a store and their values, after a new cell or a put; and the parts that references name.
use Rattle.std.proofs.Common.{◌≡◌, ℕ, zero, suc, List, [], ◌∷◌, ◌++◌, map, get_or, set, slice_get, Option, Some, None, Result, Ok, Err, option_map, Bool, true, false, refl, sym, ap, ◌∙◌, subst, arith}
use Rattle.std.proofs.lemmas.List.{map-append}
use Rattle.std.specs.List.{All}
use Rattle.std.specs.Bool.{OnFalse, OnTrue}
use Rattle.std.specs.Prelude.{IsOkAnd, IfOk, IfSome, IsTrue, OnErr}
use Rattle.std.specs.Result.{result_ok}
use Rattle.wgsl_rules.specs.Layout.{has_layout}
use Rattle.wgsl_rules.specs.Values.{Step, Reference, Val, type_of}
use Rattle.wgsl_rules.specs.Refusals.{not_read, Outcome, and_then}
use Rattle.wgsl_rules.specs.Paths.{or_refused, viewed, put_tree, put_viewed, fits}
use Rattle.wgsl_rules.proofs.lemmas.Paths.{fits-Decides}
use Rattle.wgsl_layout.specs.Exchanges.{IsExchanged}
use Rattle.wgsl_layout.specs.Fitting.{FitsAt}
use Rattle.wgsl_store.specs.Exchanges.{AreExchanged}
use Rattle.wgsl_layout.proofs.Outcomes.{answered}
use Rattle.wgsl_store.specs.Memory.{held, references, IsContent, IsSound, at_position, put_cells}
use Rattle.wgsl_store.proofs.lemmas.Held.{has-cell, held-value}
use Rattle.wgsl_store.proofs.lemmas.Sound.{append-sound, append-keeps, put-good, all-keep}
use Rattle.wgsl_store.specs.MemoryLaws.{StaysKept}
use Rattle.wgsl_values.proofs.lemmas.ViewedPaths.{has-path}
use Rattle.wgsl_values.proofs.lemmas.Replaced.{put-type}

-- ---- a tree stays of a type without a layout

-- a put of what fits keeps the type of the whole
put-typed : (steps : List Step) (w v : Val) → FitsAt w (viewed steps v) → type_of (put_viewed steps w v) ≡ type_of v
put-typed steps w v h =
    let a = answered (viewed steps v) (λ x. IsTrue (fits w x)) h in
    let p = has-path steps v a.answer a.is in
    ap (λ (o : Outcome (List ℕ)). type_of (elim o [ Ok q ↦ put_tree q w v | Err r ↦ v ])) p.there ∙ put-type p.path w v a.answer p.stands ((fits-Decides w a.answer).0 a.fact).0

pub replaced-form : (steps : List Step) (w v new : Val) → has_layout (type_of v) ≡ false → FitsAt w (viewed steps v) → new ≡ put_viewed steps w v → has_layout (type_of new) ≡ false
replaced-form steps w v new h fit put = ap (λ (x : Val). has_layout (type_of x)) put ∙ ap has_layout (put-typed steps w v fit) ∙ h

-- whether the value was exchanged or not
pub exchanged-form : (steps : List Step) (w v new : Val) (o : Option Val) → has_layout (type_of v) ≡ false → IsExchanged o v new steps w → has_layout (type_of new) ≡ false
exchanged-form steps w v new (Some old) h (fit, was, put) = replaced-form steps w v new h fit put
exchanged-form steps w v new None h (differ, same) = ap (λ (y : Val). has_layout (type_of y)) same ∙ h

-- ---- parts that are found

-- what a view leads to in the cell is what the reference holds
pub found-held : {X : Type 0} (view : X → Val) (cells : List Val) (r : Reference) (steps : List Step) (cell : Val) (o : Option X) → Some cell ≡ slice_get cells r.cell → steps ≡ r.view
    → option_map view o ≡ result_ok (viewed steps cell) → option_map view o ≡ result_ok (held cells r)
found-held view cells r steps cell o there along e =
    e ∙ ap (λ (ss : List Step). result_ok (viewed ss cell)) along ∙ ap (λ (x : Option Val). result_ok (and_then (or_refused x not_read) (viewed r.view))) there

pub found-content : {X : Type 0} (view : X → Val) (cells : List Val) (r : Reference) (o : Option X) → IsSound cells → option_map view o ≡ result_ok (held cells r) → IfSome o (λ v. IsContent cells (view v))
found-content view cells r None s e = tt
found-content view cells r (Some x) s e = by (held cells r) refl e
  where
    by : (o : Outcome Val) → held cells r ≡ o → Some (view x) ≡ result_ok o → IsContent cells (view x)
    by (Ok y) is e = held-value cells r (view x) s (is ∙ ap Ok (let same : y ≡ view x = cc in same))
    by (Err f) is e = absurd (cc)

-- ---- the cell of a reference

pub cell-is : {X : Type 0} (view : X → Val) (cs : List X) (i : ℕ) (d : X) (x : Val) → slice_get (map view cs) i ≡ Some x → view (get_or cs i d) ≡ x
cell-is view [] i d x e = absurd (cc)
cell-is view (c ∷ cs) zero d x e = cc
cell-is view (c ∷ cs) (suc i) d x e = cell-is view cs i d x e

-- what the reference holds is what its view leads to in the cell
pub held-there : {X : Type 0} (view : X → Val) (cs : List X) (cells : List Val) (r : Reference) (P : Val → Type 0) (i : ℕ) (cell : X) → map view cs ≡ cells → IsOkAnd (held cells r) P
    → i ≡ r.cell → cell ≡ get_or cs i cell → held cells r ≡ viewed r.view (view cell)
held-there view cs cells r P i cell are h at was =
    let a = answered (held cells r) P h in
    let c = has-cell cells r a.answer a.is in
    let there : slice_get (map view cs) i ≡ Some c.cell = rw (are, at) c.there in
    let same : view cell ≡ c.cell = ap view was ∙ cell-is view cs i cell c.cell there in
    a.is ∙ sym c.leads ∙ ap (viewed r.view) (sym same)

-- ---- a new cell

pub added-cells : {X : Type 0} (view : X → Val) (cs after : List X) (cells : List Val) (x : X) (w : Val) → map view cs ≡ cells → after ≡ cs ++ x ∷ [] → view x ≡ w → map view after ≡ cells ++ w ∷ []
added-cells view cs after cells x w are at is =
    ap (map view) at ∙ map-append view cs (x ∷ []) ∙ ap (λ (vs : List Val). vs ++ view x ∷ []) are ∙ ap (λ (v : Val). cells ++ v ∷ []) is

pub added-good : (cells after : List Val) (w : Val) → IsSound cells → IsContent cells w → after ≡ cells ++ w ∷ [] → StaysKept cells after
added-good cells after w s h e = subst (λ (vs : List Val). StaysKept cells vs) (sym e) (record { sound = append-sound cells w s h; keeps = append-keeps cells w })

pub all-one : {X : Type 0} (P : X → Type 0) (x : X) → P x → All P (x ∷ [])
all-one P x h zero d lt = h
all-one P x h (suc k) d lt = absurd (omega arith)

-- ---- a put

pub map-set : {X : Type 0} (view : X → Val) (cs : List X) (i : ℕ) (new d : X) (f : Val → Val) → view new ≡ f (view (get_or cs i d)) → map view (set cs i new) ≡ at_position i f (map view cs)
map-set view [] i new d f e = refl
map-set view (c ∷ cs) zero new d f e = ap (λ (v : Val). v ∷ map view cs) e
map-set view (c ∷ cs) (suc i) new d f e = ap (λ (vs : List Val). view c ∷ vs) (map-set view cs i new d f e)

pub same-set : {X : Type 0} (view : X → Val) (cs : List X) (i : ℕ) (new d : X) → view new ≡ view (get_or cs i d) → map view (set cs i new) ≡ map view cs
same-set view [] i new d e = refl
same-set view (c ∷ cs) zero new d e = ap (λ (v : Val). v ∷ map view cs) e
same-set view (c ∷ cs) (suc i) new d e = ap (λ (vs : List Val). view c ∷ vs) (same-set view cs i new d e)

-- the cells after a put into the cell that was there are those of the definition
pub replaced-cells : {X : Type 0} (view : X → Val) (cs : List X) (cells : List Val) (r : Reference) (i : ℕ) (new cell : X) (w : Val) → map view cs ≡ cells → i ≡ r.cell
    → cell ≡ get_or cs i cell → view new ≡ put_viewed r.view w (view cell) → map view (set cs i new) ≡ put_cells cells r w
replaced-cells view cs cells r i new cell w are at was put =
    map-set view cs i new cell (put_viewed r.view w) (put ∙ ap (λ (c : _). put_viewed r.view w (view c)) was)
    ∙ ap (λ (j : ℕ). at_position j (put_viewed r.view w) (map view cs)) at
    ∙ ap (λ (vs : List Val). put_cells vs r w) are

-- after a cell was put back that holds what it held, they are as before
pub same-cells : {X : Type 0} (view : X → Val) (cs : List X) (cells : List Val) (i : ℕ) (new cell : X) → map view cs ≡ cells → cell ≡ get_or cs i cell → view new ≡ view cell → map view (set cs i new) ≡ cells
same-cells view cs cells i new cell are was same = same-set view cs i new cell (same ∙ ap view was) ∙ are

-- ---- what a call on a cell changes in the store

-- after a put of what fits the cells are sound, and each reference stays kept
pub replaced-good : (cells after : List Val) (r : Reference) (w : Val) → IsSound cells → IsContent cells w → FitsAt w (held cells r) → after ≡ put_cells cells r w → StaysKept cells after
replaced-good cells after r w s h fit e =
    let a = answered (held cells r) (λ v. IsTrue (fits w v)) fit in
    subst (λ (vs : List Val). StaysKept cells vs) (sym e) (put-good cells r w a.answer s h a.is a.fact)

-- where nothing was changed they are as they were
pub same-good : (cells after : List Val) → IsSound cells → after ≡ cells → StaysKept cells after
same-good cells after s e = subst (λ (vs : List Val). StaysKept cells vs) (sym e) (record { sound = s; keeps = λ q k. k })

-- the cells after a call that says whether it put a value
pub record IsPutIf (b : Bool) (cells after : List Val) (r : Reference) (w : Val) : Type 0 where
  pub put : OnTrue b (after ≡ put_cells cells r w)
  pub same : OnFalse b (after ≡ cells)

pub put-if : {X : Type 0} (view : X → Val) (b : Bool) (cs : List X) (cells : List Val) (r : Reference) (i : ℕ) (new cell : X) (w : Val) → map view cs ≡ cells → i ≡ r.cell → cell ≡ get_or cs i cell
    → OnTrue b (view new ≡ put_viewed r.view w (view cell)) → OnFalse b (view new ≡ view cell) → IsPutIf b cells (map view (set cs i new)) r w
put-if view true cs cells r i new cell w are at was put same = record { put = replaced-cells view cs cells r i new cell w are at was put; same = tt }
put-if view false cs cells r i new cell w are at was put same = record { put = tt; same = same-cells view cs cells i new cell are was same }

pub put-if-good : (b : Bool) (cells after : List Val) (r : Reference) (w : Val) → IsSound cells → IsContent cells w → (IsTrue b → FitsAt w (held cells r)) → IsPutIf b cells after r w → StaysKept cells after
put-if-good true cells after r w s h fit p = replaced-good cells after r w s h (fit refl) p.put
put-if-good false cells after r w s h fit p = same-good cells after s p.same

-- the cells after a call that exchanges a value for what stood in a place, and answers that
pub record IsReplaced {Y E : Type 0} (value : Y → Val) (o : Result (Option Y) E) (cells after : List Val) (r : Reference) (w : Val) : Type 0 where
  pub exchanged : IfOk o (λ p. AreExchanged (option_map value p) cells after r w)
  pub same : OnErr o (after ≡ cells)
  pub good : StaysKept cells after
  pub content : IfOk o (λ p. IfSome p (λ y. IsContent after (value y)))

pub replaced-among : {X Y E : Type 0} (view : X → Val) (value : Y → Val) (o : Result (Option Y) E) (cs : List X) (cells : List Val) (r : Reference) (i : ℕ) (new cell : X) (w : Val) → map view cs ≡ cells → IsSound cells → IsContent cells w
    → held cells r ≡ viewed r.view (view cell) → i ≡ r.cell → cell ≡ get_or cs i cell → IfOk o (λ p. IsExchanged (option_map value p) (view cell) (view new) r.view w) → OnErr o (view new ≡ view cell)
    → IsReplaced value o cells (map view (set cs i new)) r w
replaced-among view value (Ok (Some y)) cs cells r i new cell w are s h led at was (fit, stood, put) same =
    let fits_there : FitsAt w (held cells r) = subst (FitsAt w) (sym led) fit in
    let after = replaced-cells view cs cells r i new cell w are at was put in
    let good = replaced-good cells (map view (set cs i new)) r w s h fits_there after in
    let old = held-value cells r (value y) s (led ∙ stood) in
    record { exchanged = (fits_there, led ∙ stood, after); same = tt; good = good; content = (old.0, all-keep cells (map view (set cs i new)) (references (value y)) good.keeps old.1) }
replaced-among view value (Ok None) cs cells r i new cell w are s h led at was (differ, same) err =
    let after = same-cells view cs cells i new cell are was same in
    record { exchanged = ((λ f. differ (subst (FitsAt w) led f)), after); same = tt; good = same-good cells (map view (set cs i new)) s after; content = tt }
replaced-among view value (Err e) cs cells r i new cell w are s h led at was put same =
    let after = same-cells view cs cells i new cell are was same in
    record { exchanged = tt; same = after; good = same-good cells (map view (set cs i new)) s after; content = tt }
