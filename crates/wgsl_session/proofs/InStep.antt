-- The memory of values and the memory of bytes are in step: the table of calls sees the same in both.
use Rattle.std.proofs.Common.{◌≡◌, ℕ, zero, suc, List, [], ◌∷◌, ◌++◌, map, length, slice_get, Option, Some, None, option_map, Ok, Err, Bool, true, false, if◌then◌else◌, refl, sym, ap, ◌∙◌, subst}
use Rattle.std.specs.Prelude.{IsOkAnd}
use Rattle.std.proofs.lemmas.Option.{same_Some}
use Rattle.wgsl_rules.specs.Access.{can_read, can_write}
use Rattle.wgsl_rules.specs.Types as types
use Rattle.wgsl_rules.specs.Types.{Ty}
use Rattle.wgsl_rules.specs.Values as values
use Rattle.wgsl_rules.specs.Values.{Step, Reference, Val, reference, type_of, IsStorable}
use Rattle.wgsl_rules.specs.Refusals.{Refusal, not_read, not_write, not_read_write, write_ref_type, Outcome, and_then}
use Rattle.wgsl_rules.specs.Paths.{viewed, put_viewed, fits, or_refused}
use Rattle.wgsl_rules.specs.declared.syntax.AddressSpace.{AddressSpace}
use Rattle.wgsl_rules.specs.declared.syntax.AccessMode.{AccessMode}
use Rattle.wgsl_store.specs.Memory.{held, IsKept, IsContent, IsSound, at_position, put_cells}
use Rattle.wgsl_store.specs.ReferenceCalls.{whole_of_new, going_on, read, deeper, old_value, read_on, load}
use Rattle.wgsl_store.proofs.lemmas.Held.{has-cell, sound-at, kept-in, held-value}
use Rattle.wgsl_store.proofs.lemmas.Sound.{accepted, read-content}
use Rattle.wgsl_session.specs.Calls.{State, Call, new, new_of, member, index, read_of, write, replace, copy, load_of, Answer, value, done, no_handle, After, Memory, IsGood, IsSoundCall, unchanged, changed, with_handle, with_cell, at_handle, or_unchanged, with_put, step, of_values}
use Rattle.wgsl_session.specs.Flat.{Cell, cell_of, found_in, found, put_in, put_flat, of_bytes, flat_of}
use Rattle.wgsl_session.specs.Laws.{ValuesAndBytesAreInStep}
use Rattle.wgsl_session.proofs.Cells.{cell-finds, cell-put}
use Rattle.wgsl_session.proofs.Found.{decoding-finds}

-- ---- the same in both memories

cell-at : (cells : List Val) (i : ℕ) → slice_get (map cell_of cells) i ≡ option_map cell_of (slice_get cells i)
cell-at [] i = refl
cell-at (x ∷ xs) zero = refl
cell-at (x ∷ xs) (suc i) = cell-at xs i

pub found-is : (cells : List Val) (r : Reference) (y : Val) → IsSound cells → held cells r ≡ Ok y → type_of y ≡ r.ty → found (map cell_of cells) r ≡ Ok y
found-is cells r y s e t =
    let c = has-cell cells r y e in
    let sound = sound-at cells cells r.cell c.cell s c.there in
    ap (λ (o : Option Cell). and_then (or_refused o not_read) (λ c. found_in c r)) (cell-at cells r.cell ∙ ap (option_map cell_of) c.there) ∙ cell-finds c.cell y r sound.0 c.leads t

kept-found : (cells : List Val) (r : Reference) → IsSound cells → IsKept cells r → found (map cell_of cells) r ≡ held cells r
kept-found cells r s k = by (held cells r) refl k
  where
    by : (o : Outcome Val) → held cells r ≡ o → IsOkAnd o (λ v. type_of v ≡ r.ty) → found (map cell_of cells) r ≡ o
    by (Ok y) is t = found-is cells r y s is t
    by (Err e) is t = absurd t

put-at : (cells : List Val) (i : ℕ) (steps : List Step) (w x : Val) → slice_get cells i ≡ Some x → put_in steps w (cell_of x) ≡ cell_of (put_viewed steps w x)
    → at_position i (put_in steps w) (map cell_of cells) ≡ map cell_of (at_position i (put_viewed steps w) cells)
put-at [] i steps w x e h = refl
put-at (y ∷ ys) zero steps w x e h =
    let same = same_Some y x e in
    ap (λ (c : Cell). c ∷ map cell_of ys) (subst (λ (z : Val). put_in steps w (cell_of z) ≡ cell_of (put_viewed steps w z)) (sym same) h)
put-at (y ∷ ys) (suc i) steps w x e h = ap (λ (cs : List Cell). cell_of y ∷ cs) (put-at ys i steps w x e h)

pub put-same : (cells : List Val) (r : Reference) (w y : Val) → IsSound cells → IsStorable w → held cells r ≡ Ok y → fits w y ≡ true → put_flat (map cell_of cells) r w ≡ map cell_of (put_cells cells r w)
put-same cells r w y s t e f =
    let c = has-cell cells r y e in
    let sound = sound-at cells cells r.cell c.cell s c.there in
    put-at cells r.cell r.view w c.cell c.there (cell-put c.cell w y r.view sound.0 t c.leads f)

-- ---- one step

-- h is what the memory of values holds, for each reference that is kept
abbrev Agrees : List Val → (Reference → Outcome Val) → Type 0
Agrees cells h = (r : Reference) → IsKept cells r → h r ≡ held cells r

flat_after : After Val → After Cell
flat_after a = record { state = flat_of a.state; answer = a.answer }

read-same : (cells : List Val) (h : Reference → Outcome Val) (r : Reference) → h r ≡ held cells r → read h r ≡ read (held cells) r
read-same cells h r e = ap (λ (o : Outcome Val). if can_read r.access then o else Err not_read) e

-- a load goes on from references that are held, and so kept
load-same : (cells : List Val) (h : Reference → Outcome Val) → IsSound cells → Agrees cells h → (t : Ty) (r : Reference) → IsKept cells r → load h t r ≡ load (held cells) t r
load-same cells h s a (types.ref space t access) r k =
    ap (λ (o : Outcome Val). and_then o (read_on (load h t))) (read-same cells h r (a r k)) ∙ on (can_read r.access) (held cells r) refl (λ q kept. load-same cells h s a t q kept)
  where
    same-on : (y : Val) → IsContent cells y → ((q : Reference) → IsKept cells q → load h t q ≡ load (held cells) t q) → read_on (load h t) y ≡ read_on (load (held cells) t) y
    same-on (reference q) v f = f q v.1.0
    same-on y v f = refl

    on : (b : Bool) (o : Outcome Val) → held cells r ≡ o → ((q : Reference) → IsKept cells q → load h t q ≡ load (held cells) t q)
        → and_then (if b then o else Err not_read) (read_on (load h t)) ≡ and_then (if b then o else Err not_read) (read_on (load (held cells) t))
    on true (Ok y) is f = same-on y (held-value cells r y s is) f
    on true (Err e) is f = refl
    on false o is f = refl
load-same cells h s a t r k = read-same cells h r (a r k)

map-append : (xs ys : List Val) → map cell_of (xs ++ ys) ≡ map cell_of xs ++ map cell_of ys
map-append [] ys = refl
map-append (x ∷ xs) ys = ap (λ (cs : List Cell). cell_of x ∷ cs) (map-append xs ys)

length-cells : (xs : List Val) → length (map cell_of xs) ≡ length xs
length-cells [] = refl
length-cells (x ∷ xs) = ap suc (length-cells xs)

module _ (s : State Val) (h : Reference → Outcome Val) (good : IsGood s) (agrees : Agrees s.cells h) where
  flat : State Cell
  flat = flat_of s

  bytes_memory : Memory Cell
  bytes_memory = of_bytes flat.cells h

  values_memory : Memory Val
  values_memory = of_values s.cells

  cell-same : (v : Val) (space : AddressSpace) (access : AccessMode) → with_cell bytes_memory flat v space access ≡ flat_after (with_cell values_memory s v space access)
  unfolding flat bytes_memory values_memory flat_after
  cell-same v space access =
      ap (λ (n : ℕ). with_handle flat (map cell_of s.cells ++ cell_of v ∷ []) (record { cell = n; view = []; ty = type_of v; space = space; access = access })) (length-cells s.cells)
      ∙ ap (λ (cs : List Cell). with_handle flat cs (whole_of_new s.cells v space access)) (sym (map-append s.cells (v ∷ [])))

  -- the row of a call, at a handle that is there
  handle-same : (i : ℕ) (f : Reference → After Cell) (g : Reference → After Val) → ((r : Reference) → IsKept s.cells r → f r ≡ flat_after (g r)) → at_handle flat i f ≡ flat_after (at_handle s i g)
  unfolding flat flat_after
  handle-same i f g same = by (slice_get s.handles i) refl
    where
      by : (o : Option Reference) → slice_get s.handles i ≡ o → elim o [ None ↦ unchanged (flat_of s) no_handle | Some r ↦ f r ] ≡ flat_after (elim o [ None ↦ unchanged s no_handle | Some r ↦ g r ])
      by None is = refl
      by (Some r) is = same r (kept-in s.cells s.handles i r good.kept is)

  unchanged-same : {A : Type 0} (o : Outcome A) (f : A → After Cell) (g : A → After Val) → ((x : A) → o ≡ Ok x → f x ≡ flat_after (g x)) → or_unchanged flat o f ≡ flat_after (or_unchanged s o g)
  unfolding flat flat_after
  unchanged-same (Ok x) f g same = same x refl
  unchanged-same (Err e) f g same = refl

  put-row : (refusal : Refusal) (answer : Val → Answer) (r : Reference) (w : Val) → IsKept s.cells r → IsStorable w → with_put bytes_memory flat refusal answer r w ≡ flat_after (with_put values_memory s refusal answer r w)
  unfolding flat bytes_memory values_memory flat_after
  put-row refusal answer r w k t =
      ap (λ (o : Outcome Val). or_unchanged flat (if can_write r.access then and_then o (λ v. if fits w v then Ok v else Err (write_ref_type (type_of w) r.ty)) else Err refusal) (λ old. changed flat (put_flat (map cell_of s.cells) r w) (answer old))) (agrees r k)
      ∙ unchanged-same (old_value refusal (held s.cells) r w) (λ old. changed flat (put_flat (map cell_of s.cells) r w) (answer old)) (λ old. changed s (put_cells s.cells r w) (answer old)) (λ old e.
      let a = accepted refusal s.cells r w old e in
      ap (λ (cs : List Cell). changed flat cs (answer old)) (put-same s.cells r w old good.sound t a.holds a.fit))

  read-row : (r : Reference) (f : Val → After Cell) (g : Val → After Val) → IsKept s.cells r → ((v : Val) → IsStorable v → f v ≡ flat_after (g v)) → or_unchanged flat (read h r) f ≡ flat_after (or_unchanged s (read (held s.cells) r) g)
  unfolding flat flat_after
  read-row r f g k same =
      ap (λ (o : Outcome Val). or_unchanged (flat_of s) o f) (read-same s.cells h r (agrees r k)) ∙ unchanged-same (read (held s.cells) r) f g (λ v e. same v (read-content s.cells r v good.sound e).0)

  part-row : (r : Reference) (st : Step) → IsKept s.cells r → or_unchanged flat (deeper h r st) (with_handle flat flat.cells) ≡ flat_after (or_unchanged s (deeper (held s.cells) r st) (with_handle s s.cells))
  unfolding flat flat_after
  part-row r st k =
      ap (λ (o : Outcome Val). or_unchanged (flat_of s) (and_then o (λ v. and_then (viewed (st ∷ []) v) (λ x. Ok (going_on r (st ∷ []) (type_of x))))) (with_handle (flat_of s) (map cell_of s.cells))) (read-same s.cells h r (agrees r k))
      ∙ unchanged-same (deeper (held s.cells) r st) (with_handle (flat_of s) (map cell_of s.cells)) (with_handle s s.cells) (λ q e. refl)

  step-same : (c : Call) → IsSoundCall c → step bytes_memory flat c ≡ flat_after (step values_memory s c)
  unfolding flat bytes_memory values_memory flat_after
  step-same (new v space access) p = cell-same v space access
  step-same (new_of i space access) p = handle-same i (λ r. with_cell bytes_memory flat (reference r) space access) (λ r. with_cell values_memory s (reference r) space access) (λ r k. cell-same (reference r) space access)
  step-same (member i n) p = handle-same i (λ r. or_unchanged flat (deeper h r (values.member n)) (with_handle flat flat.cells)) (λ r. or_unchanged s (deeper (held s.cells) r (values.member n)) (with_handle s s.cells)) (λ r k. part-row r (values.member n) k)
  step-same (index i n) p = handle-same i (λ r. or_unchanged flat (deeper h r (values.index n)) (with_handle flat flat.cells)) (λ r. or_unchanged s (deeper (held s.cells) r (values.index n)) (with_handle s s.cells)) (λ r k. part-row r (values.index n) k)
  step-same (read_of i) p = handle-same i (λ r. or_unchanged flat (read h r) (λ v. unchanged flat (value v))) (λ r. or_unchanged s (read (held s.cells) r) (λ v. unchanged s (value v))) (λ r k. read-row r (λ v. unchanged flat (value v)) (λ v. unchanged s (value v)) k (λ v t. refl))
  step-same (write i w) p = handle-same i (λ r. with_put bytes_memory flat not_write (λ old. done) r w) (λ r. with_put values_memory s not_write (λ old. done) r w) (λ r k. put-row not_write (λ old. done) r w k p.0)
  step-same (replace i w) p = handle-same i (λ r. with_put bytes_memory flat not_read_write value r w) (λ r. with_put values_memory s not_read_write value r w) (λ r k. put-row not_read_write value r w k p.0)
  step-same (copy i j) p =
      handle-same i (λ q. at_handle flat j (λ r. or_unchanged flat (read h q) (with_put bytes_memory flat not_write (λ old. done) r))) (λ q. at_handle s j (λ r. or_unchanged s (read (held s.cells) q) (with_put values_memory s not_write (λ old. done) r))) (λ q k.
      handle-same j (λ r. or_unchanged flat (read h q) (with_put bytes_memory flat not_write (λ old. done) r)) (λ r. or_unchanged s (read (held s.cells) q) (with_put values_memory s not_write (λ old. done) r)) (λ r m.
      read-row q (with_put bytes_memory flat not_write (λ old. done) r) (with_put values_memory s not_write (λ old. done) r) k (λ v t. put-row not_write (λ old. done) r v m t)))
  step-same (load_of i) p = handle-same i (λ r. or_unchanged flat (load h r.ty r) (λ v. unchanged flat (value v))) (λ r. or_unchanged s (load (held s.cells) r.ty r) (λ v. unchanged s (value v))) (λ r k.
      ap (λ (o : Outcome Val). or_unchanged flat o (λ v. unchanged flat (value v))) (load-same s.cells h good.sound agrees r.ty r k)
      ∙ unchanged-same (load (held s.cells) r.ty r) (λ v. unchanged flat (value v)) (λ v. unchanged s (value v)) (λ v e. refl))

pub in-step : ValuesAndBytesAreInStep
unfolding flat_after values_memory bytes_memory flat
in-step before after call None good p e = ap flat_of e
in-step before after call (Some a) good p e = (
  found (map cell_of before.cells),
  decoding-finds (map cell_of before.cells),
  step-same before (found (map cell_of before.cells)) good (λ r k. kept-found before.cells r good.sound k) call p ∙ ap flat_after e,
)
