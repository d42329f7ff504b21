-- Cells of bytes that what bytes lay out is put into: a whole cell, and the place of a part.
use Rattle.std.proofs.Common.{Global, Vec, ◌≡◌, ◌⊎◌, ℕ, ◌≤◌, List, length, replicate, vec_len, Option, Some, None, is_some, option_map, Ok, Err, true, false, refl, sym, ap, ◌∙◌, subst, arith}
use Rattle.std.specs.Prelude.{◌↔◌, IsOk, IsOkAnd, IsSomeAnd}
use Rattle.wgsl_rules.specs.Access.{can_write}
use Rattle.wgsl_rules.specs.Layout.{count_in, has_layout, layout, layout_len, layout_of, length_in, runtime_count}
use Rattle.wgsl_rules.specs.Paths.{put_viewed, viewed}
use Rattle.wgsl_rules.specs.Refusals.{Outcome}
use Rattle.wgsl_rules.specs.Types.{Ty}
use Rattle.wgsl_rules.specs.Values.{Reference, Step, Val, type_of}
use Rattle.wgsl_layout.specs.Buffers.{buffer, decode, decoded}
use Rattle.wgsl_layout.specs.Fitting.{LeadsIn}
use Rattle.wgsl_layout.specs.Fitting.{FitsAt}
use Rattle.wgsl_layout.specs.FlatCells.{Holds, IsPartAt, flat_value, owned_type}
use Rattle.wgsl_layout.specs.LaidOut.{CameTo}
use Rattle.wgsl_layout.specs.Located.{IsLocated, part_range, shape_plan, shape_ty}
use Rattle.wgsl_layout.specs.Plan.{Plan, plan_of}
use Rattle.wgsl_layout.specs.Ranges.{view_range}
use Rattle.wgsl_layout.specs.Walk.{put}
use Rattle.wgsl_layout.specs.declared.flat.FlatCell.TheInside.{Inside}
use Rattle.wgsl_layout.specs.declared.in_place.BytesWrite.TheVariants as bytes_write
use Rattle.wgsl_layout.specs.declared.located.Located.{Located}
use Rattle.wgsl_layout.proofs.Copies.{HasBytes, has-bytes}
use Rattle.wgsl_layout.proofs.FlatPuts.{at-part, held-value, holds-own, laid-at, part-is, place-told, put-holds}
use Rattle.wgsl_layout.proofs.LaidValues.{decode-told, told-count}
use Rattle.wgsl_layout.proofs.Reading.{counted-there}
use Rattle.wgsl_layout.proofs.lemmas.Decoded.{decoded-lays}
use Rattle.wgsl_layout.proofs.lemmas.Flat.{counted-alike}
use Rattle.wgsl_layout.proofs.lemmas.Tidy.{tidy}
use Rattle.wgsl_layout.proofs.lemmas.Written.{whole-written}

-- ---- a whole cell

-- a cell of zeros into which the numbers are put
pub whole-holds : (c : Inside) (b zeros : List ℕ) (len : ℕ) → has_layout (owned_type c.owner) ≡ true → count_in (length b) (owned_type c.owner) ≡ Some c.count → len ≡ layout_len c.count (owned_type c.owner)
    → zeros ≡ replicate len 0 → c.bytes.items ≡ put (decoded b 0 (layout c.count (owned_type c.owner))) (plan_of (owned_type c.owner)) 0 zeros → Holds c (decoded b 0 (layout c.count (owned_type c.owner)))
whole-holds c b zeros len h e long zero is =
    let t = owned_type c.owner in
    let v = decoded b 0 (layout c.count t) in
    let lays = decoded-lays b t c.count h e in
    let counted = told-count b t c.count h e in
    let own : has_layout (type_of v) ≡ true = ap has_layout lays.typed ∙ h in
    let same : layout c.count t ≡ layout_of v = ap (λ (n : ℕ). layout n t) counted ∙ ap (layout (runtime_count v)) (sym lays.typed) in
    let plan : plan_of t ≡ plan_of (type_of v) = ap plan_of (sym lays.typed) in
    record {
      typed = lays.typed;
      laid = h;
      counted = counted;
      storable = lays.storable;
      bytes = whole-written v len zeros c.bytes.items lays.storable own (long ∙ sym (tidy t c.count h).1 ∙ ap length_in same) zero (is ∙ ap (λ (p : Plan). put v p 0 zeros) plan);
    }

-- bytes are no fewer than those of what they lay out
pub laid-length : (t : Ty) (len n : ℕ) → has_layout t ≡ true → count_in len t ≡ Some n → layout_len n t ≤ len
laid-length t len n h e =
    let there = counted-there t (plan_of t) len n h refl e in
    let long = (tidy t n h).1 in
    omega (arith, there.inside, long)

-- ---- the place of a part

-- what leads to a value of some kind leads to one
pub leads-ok : (o : Outcome Val) (P : Val → Type 0) → IsOkAnd o P → IsOk o
leads-ok (Ok x) P h = refl
leads-ok (Err f) P h = absurd h

-- the part that a reference names in a value that may be held as bytes
pub record IsTarget (v : Val) (r : Reference) (l : Located) : Type 0 where
  pub held : HasBytes v
  pub part : IsPartAt v r.view l
  pub typed : shape_ty l.shape ≡ r.ty

pub target : (v : Val) (r : Reference) (l : Located) → HasBytes v → IsPartAt v r.view l → LeadsIn v r → IsTarget v r l
target v r l h p leads =
    let there = at-part v r.view (part_range l) h.storable h.laid p.found in
    let own = subst (λ (o : Outcome Val). IsOkAnd o (λ x. type_of x ≡ r.ty)) there leads in
    record { held = h; part = p; typed = sym (laid-at v l p.there).typed ∙ own }

-- that is located in a cell
pub target-at : (c : Inside) (r : Reference) (l : Located) (n : ℕ) (steps : List Step) → Holds c (flat_value c) → n ≡ vec_len c.bytes → IsLocated l → l.len ≡ n → steps ≡ r.view
    → view_range steps (layout c.count (owned_type c.owner)) ≡ Some (part_range l) → LeadsIn (flat_value c) r → IsTarget (flat_value c) r l
target-at c r l n steps h long there len along found leads =
    let v = flat_value c in
    target v r l (has-bytes c v h) (part-is c v r.view l n h long there len (ap (λ (ss : List Step). view_range ss (layout c.count (owned_type c.owner))) (sym along) ∙ found)) leads

-- the value that bytes lay out in the type of the part
abbrev pub laid_in : List ℕ → Located → ℕ → Val
laid_in b l n = decoded b 0 (layout n (shape_ty l.shape))

pub target-told : (v : Val) (r : Reference) (l : Located) (b : List ℕ) (o : Option ℕ) → IsTarget v r l → count_in (length b) (shape_ty l.shape) ≡ o → decode b r.ty ≡ option_map (laid_in b l) o
target-told v r l b o h e = ap (decode b) (sym h.typed) ∙ decode-told b (shape_ty l.shape) o h.part.there.laid e

-- it fits where it has as many elements as the part, or none
pub target-fits : (v : Val) (r : Reference) (l : Located) (b : List ℕ) (n : ℕ) → IsTarget v r l → count_in (length b) (shape_ty l.shape) ≡ Some n → FitsAt (laid_in b l n) (viewed r.view v) ↔ ((n ≡ 0) ⊎ (n ≡ l.count))
target-fits v r l b n h e =
    let t = shape_ty l.shape in
    let lays = decoded-lays b t n h.part.there.laid e in
    let place = place-told v (laid_in b l n) r.view l h.held.storable h.held.laid lays.storable h.part.there h.part.found in
    let counted = counted-alike (laid_in b l n) l.count n t lays.storable h.part.there.laid lays.typed (told-count b t n h.part.there.laid e) h.part.there.counted in
    (λ f. counted.0 (place.0 f), λ k. place.1 (counted.1 k))

-- and is then laid out as the part
pub target-alike : (v : Val) (r : Reference) (l : Located) (b : List ℕ) (n : ℕ) → IsTarget v r l → count_in (length b) (shape_ty l.shape) ≡ Some n → (n ≡ 0) ⊎ (n ≡ l.count) → (layout n (shape_ty l.shape) ≡ (part_range l).layout) × (layout_of (laid_in b l n) ≡ (part_range l).layout)
target-alike v r l b n h e k =
    let t = shape_ty l.shape in
    let w = laid_in b l n in
    let lays = decoded-lays b t n h.part.there.laid e in
    let counted = told-count b t n h.part.there.laid e in
    let own : layout n t ≡ layout_of w = ap (λ (m : ℕ). layout m t) counted ∙ ap (layout (runtime_count w)) (sym lays.typed) in
    let alike = (counted-alike w l.count n t lays.storable h.part.there.laid lays.typed counted h.part.there.counted).1 k in
    (own ∙ alike, alike)

-- it takes no more bytes than lay it out
pub target-long : (v : Val) (r : Reference) (l : Located) (b : List ℕ) (n : ℕ) → IsTarget v r l → count_in (length b) (shape_ty l.shape) ≡ Some n → (n ≡ 0) ⊎ (n ≡ l.count) → length_in (part_range l).layout ≤ length b
target-long v r l b n h e k =
    let t = shape_ty l.shape in
    let there = counted-there t (plan_of t) (length b) n h.part.there.laid refl e in
    let same = ap length_in (target-alike v r l b n h e k).0 in
    omega (arith, there.inside, same)

-- ---- what a write there comes to

pub no-value : (v : Val) (r : Reference) (l : Located) (b : List ℕ) → IsTarget v r l → count_in (length b) (shape_ty l.shape) ≡ None
    → CameTo bytes_write.NoValue true (can_write r.access) (viewed r.view v) (λ w. put_viewed r.view w v) v v (decode b r.ty)
no-value v r l b h e = (refl, target-told v r l b None h e, refl)

pub not-write : (v : Val) (r : Reference) (l : Located) (b : List ℕ) (n : ℕ) → IsTarget v r l → count_in (length b) (shape_ty l.shape) ≡ Some n → can_write r.access ≡ false
    → CameTo bytes_write.NotWrite true (can_write r.access) (viewed r.view v) (λ w. put_viewed r.view w v) v v (decode b r.ty)
not-write v r l b n h e locked = (refl, locked, ap (λ (o : Option Val). is_some o) (target-told v r l b (Some n) h e), refl)

pub misfit : (v : Val) (r : Reference) (l : Located) (b : List ℕ) (n : ℕ) → IsTarget v r l → count_in (length b) (shape_ty l.shape) ≡ Some n → can_write r.access ≡ true → ((n ≡ 0) ⊎ (n ≡ l.count) → ⊥)
    → CameTo bytes_write.Misfit true (can_write r.access) (viewed r.view v) (λ w. put_viewed r.view w v) v v (decode b r.ty)
misfit v r l b n h e may differ =
    let told = target-told v r l b (Some n) h e in
    let others : ¬ FitsAt (laid_in b l n) (viewed r.view v) = λ f. differ ((target-fits v r l b n h e).0 f) in
    (refl, may, subst (λ (o : Option Val). IsSomeAnd o (λ w. ¬ FitsAt w (viewed r.view v))) (sym told) others, refl)

-- a cell into which it is put
pub record IsWrittenCell (after : Inside) (v : Val) (r : Reference) (laid : Option Val) : Type 0 where
  pub holds : Holds after (flat_value after)
  pub came : CameTo bytes_write.Done true (can_write r.access) (viewed r.view v) (λ w. put_viewed r.view w v) v (flat_value after) laid

pub done : (c : Inside) (bytes : Vec ℕ Global) (v : Val) (r : Reference) (l : Located) (b : List ℕ) (n : ℕ) → Holds c v → IsTarget v r l → count_in (length b) (shape_ty l.shape) ≡ Some n → can_write r.access ≡ true → (n ≡ 0) ⊎ (n ≡ l.count)
    → bytes.items ≡ put (decoded b 0 (part_range l).layout) (shape_plan l.shape) l.start (buffer v) → IsWrittenCell (record { owner = c.owner; count = c.count; bytes = bytes }) v r (decode b r.ty)
done c bytes v r l b n holds h e may k is =
    let after : Inside = record { owner = c.owner; count = c.count; bytes = bytes } in
    let w = laid_in b l n in
    let alike = target-alike v r l b n h e k in
    let lays = decoded-lays b (shape_ty l.shape) n h.part.there.laid e in
    let same : decoded b 0 (part_range l).layout ≡ w = ap (decoded b 0) (sym alike.0) in
    let put_is : bytes.items ≡ put w (shape_plan l.shape) l.start (buffer v) = is ∙ ap (λ (x : Val). put x (shape_plan l.shape) l.start (buffer v)) same in
    let there = put-holds c bytes v w r.view l holds lays.storable h.part.there h.part.found alike.1 put_is in
    let fit = (target-fits v r l b n h e).1 k in
    let fact = λ (x : Val). FitsAt x (viewed r.view v) × (flat_value after ≡ put_viewed r.view x v) in
    record {
      holds = holds-own after (put_viewed r.view w v) there;
      came = (refl, may, subst (λ (o : Option Val). IsSomeAnd o fact) (sym (target-told v r l b (Some n) h e)) (fit, held-value after (put_viewed r.view w v) there));
    }
