use Rattle.std.proofs.Common.{◌≡◌, ◌∙◌, Some, length, ap, arith}
use Rattle.std.specs.Vec.{with_items}
use Rattle.std.proofs.Math.Seq.{take-append_seam}
use Rattle.wgsl_rules.specs.Layout.{has_layout, layout_of}
use Rattle.wgsl_rules.specs.Paths.{put_viewed, viewed}
use Rattle.wgsl_rules.specs.Values.{atomic_of, type_of}
use Rattle.wgsl_scalar.specs.Literals.{literal_of}
use Rattle.wgsl_values.specs.View.{steps_of}
use Rattle.wgsl_layout.specs.Atomics.{IsAtomicOf}
use Rattle.wgsl_layout.specs.Buffers.{buffer}
use Rattle.wgsl_layout.specs.FlatCells.{Holds, flat_value}
use Rattle.wgsl_layout.specs.Located.{part_range, shape_plan}
use Rattle.wgsl_layout.specs.Ranges.{view_range}
use Rattle.wgsl_layout.specs.Walk.{put}
use Rattle.wgsl_layout.proofs.AtomicParts.{fits-led}
use Rattle.wgsl_layout.proofs.FlatPuts.{has-room, held-layout, held-value, holds-own, leads-there, place-told, put-holds}
use Rattle.wgsl_layout.proofs.flat.FlatCell.put_atomic_number.Goals as goal
use Rattle.wgsl_layout.proofs.LaidParts.{leads-ok}

pub part_of-part-requires-clause-room : goal.part_of-part-requires-clause-room
part_of-part-requires-clause-room c = has-room c.self.inside (flat_value c.self.inside) c.len.result c.self.invariant c.len.ensures

pub part_of-part-requires-clause-there : goal.part_of-part-requires-clause-there
part_of-part-requires-clause-there c =
    let v = flat_value c.self.inside in
    let steps = steps_of c.args.view.now in
    let there = rw (← c.self.view_is) at c.requires.there in
    leads-there c.self.inside v steps c.self.invariant (leads-ok (viewed steps v) (IsAtomicOf (type_of (literal_of c.args.number))) there)

pub write_atomic_number-requires-clause-alike : goal.write_atomic_number-requires-clause-alike
write_atomic_number-requires-clause-alike c =
    let own = c.self.inside in
    let v = flat_value own in
    let w = literal_of c.args.number in
    let h = c.self.invariant in
    let steps = steps_of c.args.view.now in
    let part = c.part_of-part.result in
    let found : view_range steps (layout_of v) ≡ Some (part_range part) = ap (view_range steps) (held-layout own v h) ∙ c.part_of-part.ensures.found in
    let told = place-told v (atomic_of w) steps part h.storable (ap has_layout h.typed ∙ h.laid) c.requires.storable c.part_of-part.ensures.there found in
    let there = rw (← c.self.view_is) at c.requires.there in
    told.0 (fits-led w (viewed steps v) there)

-- what the cell holds after the write
after-holds : (c : goal.After-self-1) → Holds (record { owner = c.self.inside.owner; count = c.self.inside.count; bytes = with_items c.self.inside.bytes c.write_atomic_number.new.bytes })
    (put_viewed (steps_of c.args.view.now) (atomic_of (literal_of c.args.number)) (flat_value c.self.inside))
after-holds c =
    let own = c.self.inside in
    let v = flat_value own in
    let u = literal_of c.args.number in
    let w = atomic_of u in
    let h = c.self.invariant in
    let steps = steps_of c.args.view.now in
    let part = c.part_of-part.result in
    let new = c.write_atomic_number.new.bytes in
    let found : view_range steps (layout_of v) ≡ Some (part_range part) = ap (view_range steps) (held-layout own v h) ∙ c.part_of-part.ensures.found in
    let told = place-told v w steps part h.storable (ap has_layout h.typed ∙ h.laid) c.requires.storable c.part_of-part.ensures.there found in
    let there = rw (← c.self.view_is) at c.requires.there in
    let alike : layout_of w ≡ (part_range part).layout = told.0 (fits-led u (viewed steps v) there) in
    let long : own.bytes.len ≡ length new = omega (arith, c.write_atomic_number.auto.bytes, c.as_mut_slice.ensures.len) in
    let kept : (with_items own.bytes new).items ≡ new = rw long (take-append_seam new _) in
    let written : new ≡ put w (shape_plan part.shape) part.start (buffer v) =
    c.write_atomic_number.ensures ∙ ap (put w (shape_plan part.shape) part.start) (c.as_mut_slice.ensures.value ∙ h.bytes) in
    put-holds own (with_items own.bytes new) v w steps part h c.requires.storable c.part_of-part.ensures.there found alike (kept ∙ written)

pub invariant_of-self : goal.invariant_of-self
invariant_of-self c = holds-own _ _ (after-holds c)

pub returns : goal.returns
returns c = rw (← c.self.view_is) (held-value _ _ (after-holds c))
