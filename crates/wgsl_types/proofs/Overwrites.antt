-- The bytes that an atomic's new number overwrites.
use Rattle.std.proofs.Common.{◌≡◌, ℕ, List, [], length, slice_get, Option, Some, Ok, refl, sym, ap, ◌∙◌, subst}
use Rattle.std.specs.Prelude.{◌⊎◌, Bool, true, false, if◌then◌else◌, IfOk}
use mathlib.Core.Logic.{inl, inr}
use Rattle.wgsl_rules.proofs.lemmas.Paths.{fits-Decides}
use Rattle.wgsl_rules.specs.Kinds as kinds
use Rattle.wgsl_rules.specs.Layout.{HasLayout, layout_of, runtime_count}
use Rattle.wgsl_rules.specs.Paths.{put_viewed, put_tree}
use Rattle.wgsl_rules.specs.Refusals.{Outcome}
use Rattle.wgsl_rules.specs.Values.{Reference, Val, number, atomic_of, type_of, IsAtomicContent, IsWellFormed}
use Rattle.wgsl_store.proofs.lemmas.Held.{held-value, sound-at}
use Rattle.wgsl_layout.proofs.lemmas.Overwritten.{put-overwritten}
use Rattle.wgsl_layout.proofs.lemmas.ViewPaths.{view-range-is}
use Rattle.wgsl_store.proofs.lemmas.Writes.{PutCell, at-own, put-cell, held-after}
use Rattle.wgsl_layout.specs.Buffers.{buffer}
use Rattle.wgsl_store.specs.Memory.{IsSound, held, put_cells}
use Rattle.wgsl_store.proofs.lemmas.WritesApart.{at-other}
use Rattle.wgsl_layout.specs.Ranges.{range, view_range}
use Rattle.wgsl_values.specs.Same.{same_value}
use Rattle.wgsl_types.proofs.MemoryAnswers.{exchange-is, of-changes}
use Rattle.wgsl_value_ops.proofs.Outcomes.{ok-is}
use Rattle.wgsl_types.proofs.Stored.{IsArgument, IsNew, argument-of, argument-new, atomic-fits, store-is}
use Rattle.wgsl_types.specs.Atomics.{writable, atomic_stored, Changed, atomic_compare_exchanged}
use Rattle.wgsl_types.specs.Laws.{IsOverwritten, OverwritesNumber, AtomicsOverwriteTheirBytes}

four-bytes : (w : Val) → IsAtomicContent w → length (buffer (atomic_of w)) ≡ 4
four-bytes (number kinds.i32 z) h = refl
four-bytes (number kinds.u32 z) h = refl
four-bytes w h = absurd h

some-is : (o : Option Val) (v w : Val) → o ≡ Some v → o ≡ Some w → v ≡ w
some-is o v w d e = cc

-- in the cell that a reference names, after an atomic was put there
cell-overwritten : (cells : List Val) (r : Reference) (w old : Val) → IsSound cells → IsNew w old → (put : PutCell cells r (atomic_of w) (atomic_of old)) → HasLayout (type_of put.cell)
    → IsOverwritten r.view put.cell (put_tree put.path (atomic_of w) put.cell) (atomic_of w)
cell-overwritten cells r w old s n put laid =
    let storable = (sound-at cells cells r.cell put.cell s put.there).0 in
    let at = put-overwritten put.cell (atomic_of w) (atomic_of old) put.path storable laid (n.content, n.storable) put.stands (atomic-fits w old n.typed) in
    let leads : view_range r.view (layout_of put.cell) ≡ range (runtime_count put.cell) (type_of put.cell) put.path =
    subst (λ (o : Outcome (List ℕ)). IfOk o (λ p. view_range r.view (layout_of put.cell) ≡ range (runtime_count put.cell) (type_of put.cell) p)) put.leads (view-range-is r.view put.cell storable laid) in
    record { range_of = at.range_of; there = leads ∙ at.there; inside = at.inside; its_bytes = at.its_bytes }

pub put-overwrites : (cells : List Val) (r : Reference) (w old : Val) → IsSound cells → held cells r ≡ Ok (atomic_of old) → IsNew w old → OverwritesNumber cells (put_cells cells r (atomic_of w)) r
put-overwrites cells r w old s h n =
    let fits = (fits-Decides (atomic_of w) (atomic_of old)).1 (atomic-fits w old n.typed) in
    let put = put-cell cells r (atomic_of w) (atomic_of old) s (n.content, n.storable) h fits in
    record {
      number = w;
      four_bytes = four-bytes w n.content;
      holds = held-after cells r (atomic_of w) (atomic_of old) s (n.content, n.storable) h fits;
      others = λ i other. at-other cells r.cell i (put_viewed r.view (atomic_of w)) (λ e. other (sym e));
      own = λ v u before after laid.
          let same = some-is (slice_get cells r.cell) put.cell v put.there before in
          let new = some-is (slice_get (put_cells cells r (atomic_of w)) r.cell) (put_tree put.path (atomic_of w) put.cell) u
          (at-own cells r.cell (put_viewed r.view (atomic_of w)) put.cell put.there ∙ ap (λ (x : Val). Some x) put.put) after in
          subst (λ (x : Val). IsOverwritten r.view v x (atomic_of w)) new
          (subst (λ (x : Val). HasLayout (type_of x) → IsOverwritten r.view x (put_tree put.path (atomic_of w) put.cell) (atomic_of w)) same (cell-overwritten cells r w old s n put) laid);
    }

pub store-overwrites : (cells after : List Val) (p v : Val) (r : Reference) → IsSound cells → IsArgument v → writable p ≡ Ok r → atomic_stored cells p v ≡ Ok after → OverwritesNumber cells after r
store-overwrites cells after p v r s h m e =
    let i = store-is cells p v after e in
    let c = held-value cells i.place (atomic_of i.old) s i.holds in
    let place = ok-is (writable p) i.place r i.may m in
    subst (OverwritesNumber cells after) place
    (subst (λ (x : List Val). OverwritesNumber cells x i.place) i.put (put-overwrites cells i.place i.new i.old s i.holds (argument-new i.old v i.new c.0.0 h i.gives)))

exchange-overwrites : (cells : List Val) → IsSound cells → (p comparand new : Val) (c : Changed) (r : Reference) → IsWellFormed new → writable p ≡ Ok r → atomic_compare_exchanged cells p comparand new ≡ Ok c → (c.cells ≡ cells) ⊎ OverwritesNumber cells c.cells r
exchange-overwrites cells s p comparand new c r h m e =
    let i = exchange-is cells s p comparand new c h e in
    let place = ok-is (writable p) i.place r i.may m in
    subst (λ (x : Changed). (x.cells ≡ cells) ⊎ OverwritesNumber cells x.cells r) i.is
    (by (put_cells cells i.place (atomic_of i.new)) (same_value i.old i.comparand) (subst (OverwritesNumber cells (put_cells cells i.place (atomic_of i.new))) place (put-overwrites cells i.place i.new i.old s i.holds i.is_new)))
  where
    by : (after : List Val) (b : Bool) → OverwritesNumber cells after r → ((if b then after else cells) ≡ cells) ⊎ OverwritesNumber cells (if b then after else cells) r
    by after true o = inr o
    by after false o = inl refl

pub atomics-overwrite : AtomicsOverwriteTheirBytes
atomics-overwrite cells s =
    let changes = of-changes cells s (λ p after. (r : Reference) → writable p ≡ Ok r → OverwritesNumber cells after r) (λ p w after h e r m. store-overwrites cells after p w r s h m e) in
    record {
      store = λ p v after r h m e. store-overwrites cells after p v r s (argument-of v h) m e;
      add = λ p v c r h m e. changes.add p v c h e r m;
      subtract = λ p v c r h m e. changes.subtract p v c h e r m;
      raise = λ p v c r h m e. changes.raise p v c h e r m;
      lower = λ p v c r h m e. changes.lower p v c h e r m;
      join_and = λ p v c r h m e. changes.join_and p v c h e r m;
      join_or = λ p v c r h m e. changes.join_or p v c h e r m;
      join_xor = λ p v c r h m e. changes.join_xor p v c h e r m;
      exchange = λ p v c r h m e. changes.exchange p v c h e r m;
      compare_exchange = exchange-overwrites cells s;
    }
