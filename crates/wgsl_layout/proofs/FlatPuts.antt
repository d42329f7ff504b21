-- Cells that hold values as bytes: what they hold, and what a write in the place of a part makes of them.
use Rattle.std.proofs.Common.{Global, Vec, ◌≡◌, ℕ, ◌+◌, List, length, vec_len, refl, Option, Some, None, Ok, Err, option_map, true, sym, ap, ◌∙◌, subst, arith}
use Rattle.std.specs.Prelude.{◌↔◌, IsOk, IsOkAnd, IsSome}
use Rattle.std.specs.Result.{result_ok}
use Rattle.wgsl_rules.specs.Layout.{has_layout, layout, layout_of, runtime_count}
use Rattle.wgsl_rules.specs.Paths.{fits, put_viewed, viewed}
use Rattle.wgsl_rules.specs.Refusals.{Outcome}
use Rattle.wgsl_rules.specs.Values.{Step, Val, type_of, IsStorable}
use Rattle.wgsl_layout.specs.Buffers.{buffer, decoded}
use Rattle.wgsl_layout.specs.FlatCells.{Holds, IsPartAt, flat_value, owned_type}
use Rattle.wgsl_layout.specs.Layouts.{HasRoom}
use Rattle.wgsl_layout.specs.Located.{IsLocated, part_range, shape_plan, shape_ty}
use Rattle.wgsl_layout.specs.Plan.{plan_of}
use Rattle.wgsl_layout.specs.Ranges.{Range, view_range}
use Rattle.wgsl_layout.specs.Walk.{put}
use Rattle.wgsl_layout.specs.declared.flat.FlatCell.TheInside.{Inside}
use Rattle.wgsl_layout.specs.declared.located.Located.{Located}
use Rattle.wgsl_layout.proofs.lemmas.Flat.{IsLaid, IsPut, buffer-decodes, fits-laid, put-in-place, there-laid, type-alike, whole-there}
use Rattle.wgsl_layout.proofs.lemmas.Parts.{decoded-viewed}

-- ---- what a cell holds

-- the value that a cell holds is the one that its bytes lay out
pub held-value : (c : Inside) (v : Val) → Holds c v → flat_value c ≡ v
held-value c v h =
    let own : layout c.count (owned_type c.owner) ≡ layout_of v = ap (λ (n : ℕ). layout n (owned_type c.owner)) h.counted ∙ ap (layout (runtime_count v)) (sym h.typed) in
    ap (λ (b : List ℕ). decoded b 0 (layout c.count (owned_type c.owner))) h.bytes ∙ ap (decoded (buffer v) 0) own
    ∙ buffer-decodes v h.storable (ap has_layout h.typed ∙ h.laid)

pub holds-own : (c : Inside) (v : Val) → Holds c v → Holds c (flat_value c)
holds-own c v h = subst (Holds c) (sym (held-value c v h)) h

-- the layout of the value is that of its type, for the count that the cell keeps
pub held-layout : (c : Inside) (v : Val) → Holds c v → layout_of v ≡ layout c.count (owned_type c.owner)
held-layout c v h = ap (layout (runtime_count v)) h.typed ∙ ap (λ (n : ℕ). layout n (owned_type c.owner)) (sym h.counted)

-- its bytes are as many as those of the buffer
pub bytes-long : (c : Inside) (v : Val) (n : ℕ) → Holds c v → n ≡ vec_len c.bytes → n ≡ length (buffer v)
bytes-long c v n h e = let same = ap length h.bytes in omega (arith, e, c.bytes.ok.0, same)

-- and the value finds room in them
pub has-room : (c : Inside) (v : Val) (n : ℕ) → Holds c v → n ≡ vec_len c.bytes → HasRoom c.count (owned_type c.owner) n
has-room c v n h e =
    let t = owned_type c.owner in
    let there = whole-there v c.count t (plan_of t) n h.storable h.laid h.typed h.counted refl (bytes-long c v n h e) in
    let within = there.inside in
    record { counted = there.counted; inside = omega (arith, within) }

-- ---- the part that a view leads to

result-viewed : (v : Val) (steps : List Step) (o : Option Range) → IsStorable v → has_layout (type_of v) ≡ true → view_range steps (layout_of v) ≡ o → result_ok (viewed steps v) ≡ option_map (λ r. decoded (buffer v) (0 + r.start) r.layout) o
result-viewed v steps o s h e =
    ap (λ (x : Val). result_ok (viewed steps x)) (sym (buffer-decodes v s h)) ∙ decoded-viewed steps (buffer v) 0 (layout_of v)
    ∙ ap (option_map (λ r. decoded (buffer v) (0 + r.start) r.layout)) e

-- a view that leads to a value leads to a part
pub nowhere : (v : Val) (steps : List Step) → IsStorable v → has_layout (type_of v) ≡ true → view_range steps (layout_of v) ≡ None → IsOk (viewed steps v) → ⊥
nowhere v steps s h e ok = by (viewed steps v) (result-viewed v steps None s h e) ok
  where
    by : (o : Outcome Val) → result_ok o ≡ None → IsOk o → ⊥
    by (Ok x) e ok = cc
    by (Err f) e ok = cc

-- it leads to a range in the layout that a cell has
pub leads-there : (c : Inside) (v : Val) (steps : List Step) → Holds c v → IsOk (viewed steps v) → IsSome (view_range steps (layout c.count (owned_type c.owner)))
leads-there c v steps h ok = by (view_range steps (layout c.count (owned_type c.owner))) refl
  where
    by : (o : Option Range) → view_range steps (layout c.count (owned_type c.owner)) ≡ o → IsSome o
    by None e = absurd (nowhere v steps h.storable (ap has_layout h.typed ∙ h.laid) (ap (view_range steps) (held-layout c v h) ∙ e) ok)
    by (Some r) e = refl

-- the part that is located there
pub part-is : (c : Inside) (v : Val) (steps : List Step) (part : Located) (n : ℕ) → Holds c v → n ≡ vec_len c.bytes → IsLocated part → part.len ≡ n
    → view_range steps (layout c.count (owned_type c.owner)) ≡ Some (part_range part) → IsPartAt v steps part
part-is c v steps part n h e there len found = record {
  there = there;
  found = ap (view_range steps) (held-layout c v h) ∙ found;
  whole = len ∙ bytes-long c v n h e;
}

pub at-part : (v : Val) (steps : List Step) (r : Range) → IsStorable v → has_layout (type_of v) ≡ true → view_range steps (layout_of v) ≡ Some r → viewed steps v ≡ Ok (decoded (buffer v) r.start r.layout)
at-part v steps r s h e = by (viewed steps v) (result-viewed v steps (Some r) s h e)
  where
    by : (o : Outcome Val) → result_ok o ≡ Some (decoded (buffer v) (0 + r.start) r.layout) → o ≡ Ok (decoded (buffer v) r.start r.layout)
    by (Ok x) e = let z : 0 + r.start ≡ r.start = omega arith in let same : x ≡ decoded (buffer v) (0 + r.start) r.layout = cc in ap Ok (same ∙ ap (λ (n : ℕ). decoded (buffer v) n r.layout) z)
    by (Err f) e = absurd (cc)

pub laid-at : (v : Val) (l : Located) → IsLocated l → IsLaid l.count (shape_ty l.shape) (decoded (buffer v) l.start (part_range l).layout)
laid-at v l h = there-laid l.count (shape_ty l.shape) (shape_plan l.shape) l.start l.len (buffer v) h

-- what fits the part has its layout
pub place-told : (v w : Val) (steps : List Step) (l : Located) → IsStorable v → has_layout (type_of v) ≡ true → IsStorable w → IsLocated l → view_range steps (layout_of v) ≡ Some (part_range l)
    → IsOkAnd (viewed steps v) (λ x. fits w x ≡ true) ↔ (layout_of w ≡ (part_range l).layout)
place-told v w steps l s h t located e =
    let x = decoded (buffer v) l.start (part_range l).layout in
    let own = laid-at v l located in
    let told = fits-laid w x t own.storable own.laid in
    let there = at-part v steps (part_range l) s h e in
    subst (λ (o : Outcome Val). IsOkAnd o (λ x. fits w x ≡ true) ↔ (layout_of w ≡ (part_range l).layout)) (sym there)
    (λ f. told.0 f ∙ own.alike, λ k. told.1 (k ∙ sym own.alike))

-- ---- a write

-- the scalars of a value of the part's layout, written in its place
pub place-put : (v w : Val) (steps : List Step) (l : Located) → IsStorable v → has_layout (type_of v) ≡ true → IsStorable w → IsLocated l → view_range steps (layout_of v) ≡ Some (part_range l)
    → layout_of w ≡ (part_range l).layout → IsPut v (put_viewed steps w v) (put w (shape_plan l.shape) l.start (buffer v))
place-put v w steps l s h t located e alike =
    let x = decoded (buffer v) l.start (part_range l).layout in
    let own = laid-at v l located in
    let fit = (fits-laid w x t own.storable own.laid).1 (alike ∙ sym own.alike) in
    let typed = type-alike w l.count (shape_ty l.shape) alike in
    put-in-place v w x steps (part_range l) (shape_plan l.shape) s h t (at-part v steps (part_range l) s h e) fit e (located.planned ∙ ap plan_of (sym typed))

-- the cell with these bytes holds the value after the put
pub put-holds : (c : Inside) (bytes : Vec ℕ Global) (v w : Val) (steps : List Step) (l : Located) → Holds c v → IsStorable w → IsLocated l → view_range steps (layout_of v) ≡ Some (part_range l)
    → layout_of w ≡ (part_range l).layout → bytes.items ≡ put w (shape_plan l.shape) l.start (buffer v)
    → Holds (record { owner = c.owner; count = c.count; bytes = bytes }) (put_viewed steps w v)
put-holds c bytes v w steps l h t located there alike is =
    let after = place-put v w steps l h.storable (ap has_layout h.typed ∙ h.laid) t located there alike in
    record {
      typed = after.typed ∙ h.typed;
      laid = h.laid;
      counted = h.counted ∙ sym after.counted;
      storable = after.storable;
      bytes = is ∙ after.its_bytes;
    }
