-- The cells of a store after a call that adds or writes what bytes lay out, and what the call answers.
use Rattle.std.proofs.Common.{◌≡◌, ℕ, List, [], length, map, get_or, set, slice_get, Option, Some, None, Ok, Err, Bool, true, false, if◌then◌else◌, refl, sym, ap, ◌∙◌, subst}
use Rattle.std.proofs.lemmas.Bool.{false≢true}
use Rattle.std.specs.Prelude.{IsOk, MatchOption}
use Rattle.wgsl_rules.specs.Access.{can_write}
use Rattle.wgsl_rules.specs.Paths.{fits, put_viewed, viewed}
use Rattle.wgsl_rules.specs.Refusals.{Refusal, not_write, write_ref_type, Outcome, and_then}
use Rattle.wgsl_rules.specs.Types.{Ty}
use Rattle.wgsl_rules.specs.Values.{Reference, Val, type_of}
use Rattle.wgsl_rules.specs.declared.syntax.AccessMode.{AccessMode}
use Rattle.wgsl_rules.specs.declared.syntax.AddressSpace.{AddressSpace}
use Rattle.wgsl_layout.specs.Buffers.{decode}
use Rattle.wgsl_store.specs.Copies.{in_bytes, is_bytes}
use Rattle.wgsl_layout.specs.LaidOut.{CameTo}
use Rattle.wgsl_store.specs.LaidOut.{IsAdded, IsNewOf, written_of}
use Rattle.wgsl_store.specs.Memory.{held, IsContent, IsKept, IsSound, put_cells}
use Rattle.wgsl_store.specs.MemoryLaws.{StaysKept}
use Rattle.wgsl_store.specs.ReferenceCalls.{whole_of_new, written}
use Rattle.wgsl_layout.specs.declared.in_place.BytesWrite.{BytesWrite}
use Rattle.wgsl_layout.specs.declared.in_place.BytesWrite.TheVariants as bytes_write
use Rattle.wgsl_store.proofs.Answered.{new-kept}
use Rattle.wgsl_store.proofs.CopiedCells.{bytes-is, cell-there, written-done, written-misfit}
use Rattle.wgsl_layout.proofs.LaidValues.{decode-lays}
use Rattle.wgsl_layout.proofs.LaidParts.{leads-ok}
use Rattle.wgsl_store.proofs.StoreCells.{held-there, replaced-cells, replaced-good, same-cells}

-- ---- a new cell

none-of : (laid : Option Val) (space : AddressSpace) (access : AccessMode) (before after : List Val) → IsAdded laid before after false → IsNewOf laid space access before after None
none-of None space access before after (none, same) = (refl, same)
none-of (Some v) space access before after (e, added) = absurd (false≢true e)

-- where bytes lay out none in a copy of the type
pub none-made : (b : List ℕ) (t : Ty) (space : AddressSpace) (access : AccessMode) (before after : List Val) (added : Bool) → added ≡ false → IsAdded (decode b t) before after added
    → IsNewOf (decode b t) space access before after None
none-made b t space access before after added f h =
    none-of (decode b t) space access before after (subst (λ (x : Bool). IsAdded (decode b t) before after x) f h)

-- a reference to the whole of it, which is kept
pub record IsMade (laid : Option Val) (space : AddressSpace) (access : AccessMode) (before after : List Val) (q : Reference) : Type 0 where
  pub made : IsNewOf laid space access before after (Some q)
  pub kept : IsKept after q

made-of : (laid : Option Val) (t : Ty) (space : AddressSpace) (access : AccessMode) (before after : List Val) (q : Reference) → IsAdded laid before after true → ((w : Val) → laid ≡ Some w → type_of w ≡ t)
    → q ≡ record { cell = length before; view = []; ty = t; space = space; access = access } → IsMade laid space access before after q
made-of None t space access before after q (none, same) typed is = absurd (false≢true (sym none))
made-of (Some v) t space access before after q (e, added) typed is =
    let own : q ≡ whole_of_new before v space access = is ∙ ap (λ (u : Ty). record { cell = length before; view = []; ty = u; space = space; access = access }) (sym (typed v refl)) in
    record {
      made = (ap Some own, added);
      kept = new-kept before after v q added (ap (λ (x : Reference). x.cell) own) (ap (λ (x : Reference). x.view) own) (ap (λ (x : Reference). x.ty) own);
    }

pub new-made : (b : List ℕ) (t : Ty) (space : AddressSpace) (access : AccessMode) (before after : List Val) (q : Reference) (added : Bool) → added ≡ true → IsAdded (decode b t) before after added
    → q ≡ record { cell = length before; view = []; ty = t; space = space; access = access } → IsMade (decode b t) space access before after q
new-made b t space access before after q added f h is =
    made-of (decode b t) t space access before after q (subst (λ (x : Bool). IsAdded (decode b t) before after x) f h)
    (λ w laid. (decode-lays b t w laid).typed) is

-- ---- a write of numbers alone

-- what it came to in a place, it came to in all that the place is in
came-on : {B C : Type 0} (way : BytesWrite) (flat may : Bool) (place : Outcome Val) (f : Val → B) (before after : B) (g : Val → C) (old new : C) (laid : Option Val)
    → (after ≡ before → new ≡ old) → ((w : Val) → after ≡ f w → new ≡ g w) → CameTo way flat may place f before after laid → CameTo way flat may place g old new laid
came-on bytes_write.Done flat may place f before after g old new None same on (b, m, h) = absurd h
came-on bytes_write.Done flat may place f before after g old new (Some w) same on (b, m, (fit, e)) = (b, m, (fit, on w e))
came-on bytes_write.NoValue flat may place f before after g old new laid same on (b, none, e) = (b, none, same e)
came-on bytes_write.NotWrite flat may place f before after g old new laid same on (b, m, some, e) = (b, m, some, same e)
came-on bytes_write.Misfit flat may place f before after g old new laid same on (b, m, differ, e) = (b, m, differ, same e)
came-on bytes_write.NotBytes flat may place f before after g old new laid same on (b, e) = (b, same e)

-- among the cells
pub came-cells : {X : Type 0} (view : X → Val) (way : BytesWrite) (cs : List X) (cells : List Val) (r : Reference) (i : ℕ) (cell new : X) (laid : Option Val) → map view cs ≡ cells → IsKept cells r → i ≡ r.cell → cell ≡ get_or cs i cell
    → CameTo way (is_bytes (view cell)) (can_write r.access) (viewed r.view (view cell)) (λ w. put_viewed r.view w (view cell)) (view cell) (view new) laid
    → CameTo way (in_bytes cells r) (can_write r.access) (held cells r) (λ w. put_cells cells r w) cells (map view (set cs i new)) laid
came-cells view way cs cells r i cell new laid are kept at was h =
    let led = held-there view cs cells r (λ v. type_of v ≡ r.ty) i cell are kept at was in
    let ok : IsOk (held (map view cs) r) = subst (λ (vs : List Val). IsOk (held vs r)) (sym are) (leads-ok (held cells r) (λ v. type_of v ≡ r.ty) kept) in
    let there : slice_get cells r.cell ≡ Some (view cell) = ap (λ (vs : List Val). slice_get vs r.cell) (sym are) ∙ cell-there view cs r i cell ok at ∙ ap (λ (c : _). Some (view c)) (sym was) in
    let flat = bytes-is cells r (view cell) there in
    came-on way (in_bytes cells r) (can_write r.access) (held cells r) (λ w. put_viewed r.view w (view cell)) (view cell) (view new) (λ w. put_cells cells r w) cells (map view (set cs i new)) laid
    (λ e. same-cells view cs cells i new cell are was e) (λ w e. replaced-cells view cs cells r i new cell w are at was e)
    (subst (λ (b : Bool). CameTo way b (can_write r.access) (held cells r) (λ w. put_viewed r.view w (view cell)) (view cell) (view new) laid) (sym flat)
    (subst (λ (o : Outcome Val). CameTo way (is_bytes (view cell)) (can_write r.access) o (λ w. put_viewed r.view w (view cell)) (view cell) (view new) laid) (sym led) h))

-- the cells stay sound, and each reference stays kept
pub came-good : (way : BytesWrite) (flat may : Bool) (cells after : List Val) (r : Reference) (laid : Option Val) → IsSound cells → ((w : Val) → laid ≡ Some w → IsContent cells w)
    → CameTo way flat may (held cells r) (λ w. put_cells cells r w) cells after laid → StaysKept cells after
came-good way flat may cells after r laid s content h = by way laid content h
  where
    kept : after ≡ cells → StaysKept cells after
    kept e = subst (λ (vs : List Val). StaysKept cells vs) (sym e) (record { sound = s; keeps = λ p k. k })

    by : (k : BytesWrite) (o : Option Val) → ((w : Val) → o ≡ Some w → IsContent cells w) → CameTo k flat may (held cells r) (λ w. put_cells cells r w) cells after o → StaysKept cells after
    by bytes_write.Done None content (b, m, h) = absurd h
    by bytes_write.Done (Some w) content (b, m, (fit, e)) = replaced-good cells after r w s (content w refl) fit e
    by bytes_write.NoValue o content (b, none, e) = kept e
    by bytes_write.NotWrite o content (b, m, some, e) = kept e
    by bytes_write.Misfit o content (b, m, differ, e) = kept e
    by bytes_write.NotBytes o content (b, e) = kept e

-- ---- what a write answers

-- where there is a value, it is as the write of the value
pub written-as : (cells : List Val) (r : Reference) (laid : Option Val) (w : Val) (o : Outcome (List Val)) → laid ≡ Some w → written cells r w ≡ o → written_of cells r laid ≡ and_then o (λ after. Ok (Some after))
written-as cells r laid w o e is = ap (written_of cells r) e ∙ ap (λ (x : Outcome (List Val)). and_then x (λ after. Ok (Some after))) is

pub refused-as : (o : Option Refusal) (cells : List Val) (r : Reference) (laid : Option Val) (w : Val) → laid ≡ Some w → MatchOption o (Unit {0}) (λ f. written cells r w ≡ Err f) → MatchOption o (Unit {0}) (λ f. written_of cells r laid ≡ Err f)
refused-as None cells r laid w e h = tt
refused-as (Some f) cells r laid w e h = written-as cells r laid w (Err f) e h

pub came-done : (flat : Bool) (cells after : List Val) (r : Reference) (laid : Option Val) → CameTo bytes_write.Done flat (can_write r.access) (held cells r) (λ w. put_cells cells r w) cells after laid → written_of cells r laid ≡ Ok (Some after)
came-done flat cells after r None (b, m, h) = absurd h
came-done flat cells after r (Some w) (b, m, (fit, e)) = written-as cells r (Some w) w (Ok after) refl (written-done cells after r w m fit e)

pub came-none : (flat : Bool) (cells after : List Val) (r : Reference) (laid : Option Val) → CameTo bytes_write.NoValue flat (can_write r.access) (held cells r) (λ w. put_cells cells r w) cells after laid → written_of cells r laid ≡ Ok None
came-none flat cells after r laid (b, none, e) = ap (written_of cells r) none

pub came-not-write : (flat : Bool) (cells after : List Val) (r : Reference) (laid : Option Val) → CameTo bytes_write.NotWrite flat (can_write r.access) (held cells r) (λ w. put_cells cells r w) cells after laid → written_of cells r laid ≡ Err not_write
came-not-write flat cells after r None (b, m, some, e) = cc
came-not-write flat cells after r (Some w) (b, m, some, e) =
    written-as cells r (Some w) w (Err not_write) refl
    (ap (λ (c : Bool). and_then (if c then and_then (held cells r) (λ v. if fits w v then Ok v else Err (write_ref_type (type_of w) r.ty)) else Err not_write) (λ old. Ok (put_cells cells r w))) m)

pub came-misfit : (flat : Bool) (cells after : List Val) (r : Reference) (laid : Option Val) → IsKept cells r → ((w : Val) → laid ≡ Some w → type_of w ≡ r.ty)
    → CameTo bytes_write.Misfit flat (can_write r.access) (held cells r) (λ w. put_cells cells r w) cells after laid → written_of cells r laid ≡ Err (write_ref_type r.ty r.ty)
came-misfit flat cells after r None k typed (b, m, differ, e) = absurd differ
came-misfit flat cells after r (Some w) k typed (b, m, differ, e) =
    written-as cells r (Some w) w (Err (write_ref_type (type_of w) r.ty)) refl (written-misfit cells r w m k differ) ∙ ap (λ (t : Ty). Err (write_ref_type t r.ty)) (typed w refl)

-- what is refused is not accepted
pub not-accepted : {A : Type 0} (o : Outcome A) (f : Refusal) → o ≡ Err f → IsOk o → ⊥
not-accepted (Ok x) f e k = cc
not-accepted (Err g) f e k = cc
