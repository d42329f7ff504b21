use Rattle.std.proofs.Common.{◌≡◌, ◌∙◌, Ok, Some, length, ap, arith, refl, sym}
use Rattle.std.specs.Vec.{with_items}
use Rattle.std.proofs.lemmas.Bool.{false≢true}
use Rattle.std.proofs.Math.Seq.{take-append_seam}
use Rattle.wgsl_rules.specs.Layout.{has_layout, layout_of}
use Rattle.wgsl_rules.specs.Paths.{put_viewed, viewed}
use Rattle.wgsl_values.specs.View.{steps_of, value_of}
use Rattle.wgsl_layout.specs.Buffers.{buffer, decoded}
use Rattle.wgsl_layout.specs.FlatCells.{Holds, flat_value}
use Rattle.wgsl_layout.specs.Located.{part_range, shape_plan}
use Rattle.wgsl_layout.specs.Ranges.{view_range}
use Rattle.wgsl_layout.specs.Walk.{put}
use Rattle.wgsl_layout.proofs.FlatPuts.{at-part, has-room, held-layout, held-value, holds-own, leads-there, place-told, put-holds}
use Rattle.wgsl_layout.proofs.flat.FlatCell.replace.Goals as goal

pub part_of-part-requires-clause-room : goal.part_of-part-requires-clause-room
part_of-part-requires-clause-room c = has-room c.self.inside (flat_value c.self.inside) c.len.result c.self.invariant c.len.ensures

pub part_of-part-requires-clause-there : goal.part_of-part-requires-clause-there
part_of-part-requires-clause-there c = leads-there c.self.inside (flat_value c.self.inside) (steps_of c.args.view.now) c.self.invariant (rw (← c.self.view_is) at c.requires.there)

pub returns-then-not-fits-clause-exchanged : goal.returns-then-not-fits-clause-exchanged
returns-then-not-fits-clause-exchanged c =
    let own = c.self.inside in
    let v = flat_value own in
    let h = c.self.invariant in
    let steps = steps_of c.args.view.now in
    let part = c.part_of-part.result in
    let found : view_range steps (layout_of v) ≡ Some (part_range part) = ap (view_range steps) (held-layout own v h) ∙ c.part_of-part.ensures.found in
    let told = place-told v (value_of c.args.value.now) steps part h.storable (ap has_layout h.typed ∙ h.laid) c.requires.storable c.part_of-part.ensures.there found in
    rw (← c.self.view_is) (λ k. false≢true (c.if-not-fits.ensures.1 (told.0 k)), refl)

-- what the cell holds after the write
after-holds : (c : goal.After-self-1) → Holds (record { owner = c.self.inside.owner; count = c.self.inside.count; bytes = with_items c.self.inside.bytes c.write.new.bytes })
    (put_viewed (steps_of c.args.view.now) (value_of c.args.value.now) (flat_value c.self.inside))
after-holds c =
    let own = c.self.inside in
    let v = flat_value own in
    let w = value_of c.args.value.now in
    let h = c.self.invariant in
    let steps = steps_of c.args.view.now in
    let part = c.part_of-part.result in
    let new = c.write.new.bytes in
    let found : view_range steps (layout_of v) ≡ Some (part_range part) = ap (view_range steps) (held-layout own v h) ∙ c.part_of-part.ensures.found in
    let long : own.bytes.len ≡ length new = omega (arith, c.write.auto.bytes, c.as_mut_slice-bytes.ensures.len) in
    let kept : (with_items own.bytes new).items ≡ new = rw long (take-append_seam new _) in
    let written : new ≡ put w (shape_plan part.shape) part.start (buffer v) =
    c.write.ensures ∙ ap (put w (shape_plan part.shape) part.start) (c.as_mut_slice-bytes.ensures.value ∙ h.bytes) in
    put-holds own (with_items own.bytes new) v w steps part h c.requires.storable c.part_of-part.ensures.there found (c.if-not-fits.ensures.0 refl) (kept ∙ written)

pub invariant_of-self : goal.invariant_of-self
invariant_of-self c = holds-own _ _ (after-holds c)

pub returns-clause-exchanged : goal.returns-clause-exchanged
returns-clause-exchanged c =
    let own = c.self.inside in
    let v = flat_value own in
    let w = value_of c.args.value.now in
    let h = c.self.invariant in
    let steps = steps_of c.args.view.now in
    let part = c.part_of-part.result in
    let found : view_range steps (layout_of v) ≡ Some (part_range part) = ap (view_range steps) (held-layout own v h) ∙ c.part_of-part.ensures.found in
    let told = place-told v w steps part h.storable (ap has_layout h.typed ∙ h.laid) c.requires.storable c.part_of-part.ensures.there found in
    let stood : viewed steps v ≡ Ok (value_of c.in_ok-old.old) =
    at-part v steps (part_range part) h.storable (ap has_layout h.typed ∙ h.laid) found ∙ ap Ok (sym (c.in_ok-old.ensures ∙ ap (λ (b : _). decoded b part.start (part_range part).layout) (c.as_slice.ensures.value ∙ h.bytes))) in
    rw (← c.self.view_is) (told.1 (c.if-not-fits.ensures.0 refl), stood, held-value _ _ (after-holds c))
