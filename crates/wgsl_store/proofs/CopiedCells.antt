-- The cells of a store after a copy between two of them, and what the copy answers.
use Rattle.std.proofs.Common.{◌≡◌, ◌<◌, ◌-◌, ℕ, List, length, arith, ◌++◌, map, get_or, set, slice_get, Option, Some, None, Ok, Err, Bool, true, false, ◌&&◌, if◌then◌else◌, refl, sym, ap, ◌∙◌, subst}
use Rattle.std.proofs.lemmas.List.{get_or_append_left, get_or-append_right, set-append_left, set-append_right}
use Rattle.std.specs.Prelude.{IsOk, IsOkAnd}
use Rattle.wgsl_rules.specs.Access.{can_read, can_write}
use Rattle.wgsl_rules.specs.Paths.{fits, or_refused, put_viewed, viewed}
use Rattle.wgsl_rules.specs.Refusals.{not_read, not_write, write_ref_type, Outcome, and_then}
use Rattle.wgsl_rules.specs.Values.{Step, Reference, Val, type_of}
use Rattle.wgsl_layout.specs.Copies.{IsCopied}
use Rattle.wgsl_store.specs.Copies.{AreCopied, are_in_bytes, copied, in_bytes, is_bytes}
use Rattle.wgsl_layout.specs.Fitting.{FitsAt}
use Rattle.wgsl_store.specs.Memory.{held, IsKept, IsSound, put_cells}
use Rattle.wgsl_store.specs.MemoryLaws.{StaysKept}
use Rattle.wgsl_store.specs.ReferenceCalls.{old_value, written}
use Rattle.wgsl_layout.specs.declared.in_place.InPlace.{InPlace}
use Rattle.wgsl_layout.specs.declared.in_place.InPlace.TheVariants as in_place
use Rattle.wgsl_store.proofs.StoreCells.{cell-is, map-set, same-set, replaced-good}
use Rattle.wgsl_store.proofs.lemmas.Held.{has-cell, held-value}
use Rattle.wgsl_store.proofs.lemmas.Writes.{accepts}

-- ---- in one cell

-- a cell that is no bytes
pub no-bytes : (o : Outcome Val) (both : Bool) (v : Val) (steps : List Step) → IsOk o → both ≡ false → IsOkAnd o (IsCopied in_place.NotBytes both v v steps)
no-bytes (Ok w) both v steps k e = (e, refl)
no-bytes (Err f) both v steps k e = cc

-- ---- among cells

-- a fact of an answer that follows from another
pub on-answer : {A : Type 0} (P Q : A → Type 0) (o : Outcome A) → ((x : A) → P x → Q x) → IsOkAnd o P → IsOkAnd o Q
on-answer P Q (Ok x) f h = f x h
on-answer P Q (Err e) f h = absurd h

-- what a reference holds, by the value of its cell
pub held-is : (cells : List Val) (r : Reference) (v : Val) → slice_get cells r.cell ≡ Some v → held cells r ≡ viewed r.view v
held-is cells r v e = ap (λ (o : Option Val). and_then (or_refused o not_read) (viewed r.view)) e

pub bytes-is : (cells : List Val) (r : Reference) (v : Val) → slice_get cells r.cell ≡ Some v → in_bytes cells r ≡ is_bytes v
bytes-is cells r v e = ap (λ (o : Option Val). elim o [ None ↦ false | Some x ↦ is_bytes x ]) e

-- the cell of what a reference holds is there
pub cell-there : {X : Type 0} (view : X → Val) (cs : List X) (r : Reference) (i : ℕ) (d : X) → IsOk (held (map view cs) r) → i ≡ r.cell → slice_get (map view cs) r.cell ≡ Some (view (get_or cs i d))
cell-there view cs r i d k at = by (held (map view cs) r) refl k
  where
    by : (o : Outcome Val) → held (map view cs) r ≡ o → IsOk o → slice_get (map view cs) r.cell ≡ Some (view (get_or cs i d))
    by (Ok y) is k =
        let c = has-cell (map view cs) r y is in
        let there : slice_get (map view cs) i ≡ Some c.cell = ap (slice_get (map view cs)) at ∙ c.there in
        c.there ∙ ap Some (sym (cell-is view cs i d c.cell there))
    by (Err f) is k = cc

-- where the cells are cut in two, it is there in one of the parts
pub front-there : {X : Type 0} (view : X → Val) (cs front back : List X) (r : Reference) (i : ℕ) (d : X) → IsOk (held (map view cs) r) → i ≡ r.cell → cs ≡ front ++ back → i < length front
    → slice_get (map view cs) r.cell ≡ Some (view (get_or front i d))
front-there view cs front back r i d k at e lt = cell-there view cs r i d k at ∙ ap (λ (ys : List _). Some (view (get_or ys i d))) e ∙ ap (λ (x : _). Some (view x)) (get_or_append_left front back d i lt)

pub back-there : {X : Type 0} (view : X → Val) (cs front back : List X) (r : Reference) (i : ℕ) (d : X) → IsOk (held (map view cs) r) → i ≡ r.cell → cs ≡ front ++ back → length front ≡ i
    → slice_get (map view cs) r.cell ≡ Some (view (get_or back 0 d))
back-there view cs front back r i d k at e long =
    let none : i - i ≡ 0 = omega arith in
    cell-there view cs r i d k at ∙ ap (λ (ys : List _). Some (view (get_or ys i d))) e ∙ ap (λ (x : _). Some (view x)) (get_or-append_right front back i i d long (omega arith))
    ∙ ap (λ (n : ℕ). Some (view (get_or back n d))) none

-- and a cell that is set in one of the parts is set among all
pub front-set : {X : Type 0} (cs front back : List X) (i : ℕ) (new : X) → cs ≡ front ++ back → i < length front → set front i new ++ back ≡ set cs i new
front-set cs front back i new e lt = sym (ap (λ (ys : List _). set ys i new) e ∙ set-append_left front back i new lt)

pub back-set : {X : Type 0} (cs front back : List X) (i : ℕ) (new : X) → cs ≡ front ++ back → length front ≡ i → front ++ set back 0 new ≡ set cs i new
back-set cs front back i new e long =
    let none : i - i ≡ 0 = omega arith in
    sym (ap (λ (ys : List _). set ys i new) e ∙ set-append_right front back i i new long (omega arith) ∙ ap (λ (k : ℕ). front ++ set back k new) none)

-- and its view leads on
pub leads-on : (cells : List Val) (r : Reference) (v : Val) → IsOk (held cells r) → slice_get cells r.cell ≡ Some v → IsOk (viewed r.view v)
leads-on cells r v k there = subst (λ (o : Outcome Val). IsOk o) (held-is cells r v there) k

-- a copy from the cell x to the cell y, which becomes `new`
copied-set : {X : Type 0} (view : X → Val) (way : InPlace) (cs : List X) (q r : Reference) (x y new : X) → slice_get (map view cs) q.cell ≡ Some (view x) → slice_get (map view cs) r.cell ≡ Some (view y)
    → IsOkAnd (viewed q.view (view x)) (IsCopied way (is_bytes (view x) && is_bytes (view y)) (view y) (view new) r.view)
    → IsOkAnd (held (map view cs) q) (AreCopied way (are_in_bytes (map view cs) q r) (map view cs) (map view (set cs r.cell new)) r)
copied-set view way cs q r x y new from to h =
    subst (λ (o : Outcome Val). IsOkAnd o (AreCopied way (are_in_bytes cells q r) cells after r)) (sym (held-is cells q (view x) from))
    (on-answer (IsCopied way (is_bytes (view x) && is_bytes (view y)) (view y) (view new) r.view) (AreCopied way (are_in_bytes cells q r) cells after r) (viewed q.view (view x)) (each way) h)
  where
    cells : List Val
    cells = map view cs

    after : List Val
    after = map view (set cs r.cell new)

    both : are_in_bytes cells q r ≡ (is_bytes (view x) && is_bytes (view y))
    both = ap (λ (b : Bool). b && in_bytes cells r) (bytes-is cells q (view x) from) ∙ ap (λ (b : Bool). is_bytes (view x) && b) (bytes-is cells r (view y) to)

    was : view (get_or cs r.cell y) ≡ view y
    was = cell-is view cs r.cell y (view y) to

    same : view new ≡ view y → after ≡ cells
    same e = same-set view cs r.cell new y (e ∙ sym was)

    each : (k : InPlace) (w : Val) → IsCopied k (is_bytes (view x) && is_bytes (view y)) (view y) (view new) r.view w → AreCopied k (are_in_bytes cells q r) cells after r w
    each in_place.Done w (b, fit, put) = (
      both ∙ b,
      subst (FitsAt w) (sym (held-is cells r (view y) to)) fit,
      map-set view cs r.cell new y (put_viewed r.view w) (put ∙ ap (put_viewed r.view w) (sym was)),
    )
    each in_place.Misfit w (b, differ, e) = (both ∙ b, λ f. differ (subst (FitsAt w) (held-is cells r (view y) to) f), same e)
    each in_place.NotBytes w (b, e) = (both ∙ b, same e)

pub copied-cells : {X : Type 0} (view : X → Val) (way : InPlace) (cs after : List X) (q r : Reference) (x y new : X) → slice_get (map view cs) q.cell ≡ Some (view x) → slice_get (map view cs) r.cell ≡ Some (view y) → after ≡ set cs r.cell new
    → IsOkAnd (viewed q.view (view x)) (IsCopied way (is_bytes (view x) && is_bytes (view y)) (view y) (view new) r.view)
    → IsOkAnd (held (map view cs) q) (AreCopied way (are_in_bytes (map view cs) q r) (map view cs) (map view after) r)
copied-cells view way cs after q r x y new from to e h =
    subst (λ (ys : List _). IsOkAnd (held (map view cs) q) (AreCopied way (are_in_bytes (map view cs) q r) (map view cs) (map view ys) r)) (sym e) (copied-set view way cs q r x y new from to h)

-- in one cell
pub and-same : (b : Bool) → b ≡ (b && b)
and-same true = refl
and-same false = refl

-- after a copy the cells are sound, and each reference stays kept
pub copied-good : (way : InPlace) (both : Bool) (cells after : List Val) (q r : Reference) → IsSound cells → IsOkAnd (held cells q) (AreCopied way both cells after r) → StaysKept cells after
copied-good way both cells after q r s h = by (held cells q) refl h
  where
    kept : after ≡ cells → StaysKept cells after
    kept e = subst (λ (vs : List Val). StaysKept cells vs) (sym e) (record { sound = s; keeps = λ p k. k })

    each : (k : InPlace) (w : Val) → held cells q ≡ Ok w → AreCopied k both cells after r w → StaysKept cells after
    each in_place.Done w is (b, fit, put) = replaced-good cells after r w s (held-value cells q w s is) fit put
    each in_place.Misfit w is (b, differ, e) = kept e
    each in_place.NotBytes w is (b, e) = kept e

    by : (o : Outcome Val) → held cells q ≡ o → IsOkAnd o (AreCopied way both cells after r) → StaysKept cells after
    by (Ok w) is h = each way w is h
    by (Err f) is h = absurd h

-- ---- what a copy answers

-- a value is written where it fits
pub written-done : (cells after : List Val) (r : Reference) (w : Val) → can_write r.access ≡ true → FitsAt w (held cells r) → after ≡ put_cells cells r w → written cells r w ≡ Ok after
written-done cells after r w can fit put = by (held cells r) refl fit
  where
    by : (o : Outcome Val) → held cells r ≡ o → FitsAt w o → written cells r w ≡ Ok after
    by (Ok old) is f =
        accepts cells r w old can is f ∙ ap Ok (sym put)
    by (Err e) is f = absurd f

-- and else refused
pub written-misfit : (cells : List Val) (r : Reference) (w : Val) → can_write r.access ≡ true → IsKept cells r → (¬ FitsAt w (held cells r)) → written cells r w ≡ Err (write_ref_type (type_of w) r.ty)
written-misfit cells r w can kept differ = by (held cells r) refl kept
  where
    turned : (o : Outcome Val) → held cells r ≡ o → old_value not_write (held cells) r w ≡ and_then o (λ v. if fits w v then Ok v else Err (write_ref_type (type_of w) r.ty))
    turned o is =
        ap (λ (b : Bool). if b then and_then (held cells r) (λ v. if fits w v then Ok v else Err (write_ref_type (type_of w) r.ty)) else Err not_write) can
        ∙ ap (λ (o : Outcome Val). and_then o (λ v. if fits w v then Ok v else Err (write_ref_type (type_of w) r.ty))) is

    at : (v : Val) (b : Bool) → held cells r ≡ Ok v → fits w v ≡ b → written cells r w ≡ Err (write_ref_type (type_of w) r.ty)
    at v true is f = absurd (differ (subst (FitsAt w) (sym is) f))
    at v false is f =
        ap (λ (o : Outcome Val). and_then o (λ x. Ok (put_cells cells r w))) (turned (Ok v) is ∙ ap (λ (b : Bool). if b then Ok v else Err (write_ref_type (type_of w) r.ty)) f)

    by : (o : Outcome Val) → held cells r ≡ o → IsOkAnd o (λ v. type_of v ≡ r.ty) → written cells r w ≡ Err (write_ref_type (type_of w) r.ty)
    by (Ok v) is k = at v (fits w v) is refl
    by (Err e) is k = absurd k

-- a copy of a value that may be read is a write of it
pub copied-is : (cells : List Val) (q r : Reference) (w : Val) → can_read q.access ≡ true → held cells q ≡ Ok w → copied cells q r ≡ written cells r w
copied-is cells q r w can is =
    ap (λ (b : Bool). and_then (if b then held cells q else Err not_read) (written cells r)) can
    ∙ ap (λ (o : Outcome Val). and_then o (written cells r)) is

pub copied-done : (both : Bool) (cells after : List Val) (q r : Reference) → can_read q.access ≡ true → can_write r.access ≡ true → IsOkAnd (held cells q) (AreCopied in_place.Done both cells after r) → copied cells q r ≡ Ok after
copied-done both cells after q r can may h = by (held cells q) refl h
  where
    by : (o : Outcome Val) → held cells q ≡ o → IsOkAnd o (AreCopied in_place.Done both cells after r) → copied cells q r ≡ Ok after
    by (Ok w) is (b, fit, put) = copied-is cells q r w can is ∙ written-done cells after r w may fit put
    by (Err e) is k = absurd k

pub copied-misfit : (both : Bool) (cells after : List Val) (q r : Reference) → can_read q.access ≡ true → can_write r.access ≡ true → IsKept cells q → IsKept cells r → IsOkAnd (held cells q) (AreCopied in_place.Misfit both cells after r)
    → copied cells q r ≡ Err (write_ref_type q.ty r.ty)
copied-misfit both cells after q r can may from to h = by (held cells q) refl from h
  where
    by : (o : Outcome Val) → held cells q ≡ o → IsOkAnd o (λ v. type_of v ≡ q.ty) → IsOkAnd o (AreCopied in_place.Misfit both cells after r) → copied cells q r ≡ Err (write_ref_type q.ty r.ty)
    by (Ok w) is typed (b, differ, same) = copied-is cells q r w can is ∙ written-misfit cells r w may to differ ∙ ap (λ (t : _). Err (write_ref_type t r.ty)) typed
    by (Err e) is k j = absurd j

-- a copy that says that a cell is no bytes
pub not-in-bytes : (both : Bool) (cells after : List Val) (q r : Reference) → IsOkAnd (held cells q) (AreCopied in_place.NotBytes both cells after r) → both ≡ false
not-in-bytes both cells after q r h = by (held cells q) h
  where
    by : (o : Outcome Val) → IsOkAnd o (AreCopied in_place.NotBytes both cells after r) → both ≡ false
    by (Ok w) (b, e) = b
    by (Err e) h = absurd h

-- a copy of what does not fit is not accepted
pub misfit-refused : (both : Bool) (cells after : List Val) (q r : Reference) → can_read q.access ≡ true → can_write r.access ≡ true → IsKept cells q → IsKept cells r → IsOkAnd (held cells q) (AreCopied in_place.Misfit both cells after r)
    → IsOk (copied cells q r) → ⊥
misfit-refused both cells after q r can may from to h ok = refused (copied cells q r) (copied-misfit both cells after q r can may from to h) ok
  where
    refused : (o : Outcome (List Val)) → o ≡ Err (write_ref_type q.ty r.ty) → IsOk o → ⊥
    refused (Ok x) e k = cc
    refused (Err f) e k = cc
