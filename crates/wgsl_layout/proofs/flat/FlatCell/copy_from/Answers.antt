use Rattle.std.proofs.Common.{◌≡◌, ◌∙◌, ◌+◌, ◌≤◌, List, ℕ, length, ap, sym, arith, refl}
use Rattle.std.specs.Vec.{with_items}
use Rattle.std.proofs.lemmas.Bool.{false≢true}
use Rattle.std.proofs.Math.Seq.{take-append_seam}
use Rattle.wgsl_rules.specs.Layout.{length_in}
use Rattle.wgsl_values.specs.View.{steps_of}
use Rattle.wgsl_layout.specs.Buffers.{buffer}
use Rattle.wgsl_layout.specs.FlatCells.{IsPartAt, flat_value}
use Rattle.wgsl_layout.specs.Located.{part_range}
use Rattle.wgsl_layout.specs.Ranges.{bytes_in, overwritten}
use Rattle.wgsl_layout.proofs.Copies.{IsCopiedCell, copied-cell, has-bytes, not-copied, range-long}
use Rattle.wgsl_layout.proofs.FlatPuts.{has-room, leads-there, part-is}
use Rattle.wgsl_layout.proofs.flat.FlatCell.copy_from.Goals as goal

pub part_of-target-requires-clause-room : goal.part_of-target-requires-clause-room
part_of-target-requires-clause-room c = has-room c.self.inside (flat_value c.self.inside) c.len.result c.self.invariant c.len.ensures

pub part_of-target-requires-clause-there : goal.part_of-target-requires-clause-there
part_of-target-requires-clause-there c = leads-there c.self.inside (flat_value c.self.inside) (steps_of c.args.to.now) c.self.invariant (rw (← c.self.view_is) at c.requires.to)

pub returns-then-not-is_like-clause-copied : goal.returns-then-not-is_like-clause-copied
returns-then-not-is_like-clause-copied c =
    let v = flat_value c.self.inside in
    let u = c.args.other.now in
    rw (← c.self.view_is) (not-copied u v v (steps_of c.args.from.now) (steps_of c.args.to.now) c.part_at-source.result c.part_of-target.result
    (record { storable = c.part_at-source.ensures.storable; laid = c.part_at-source.ensures.laid }) (has-bytes c.self.inside v c.self.invariant) c.part_at-source.ensures.part (part-is c.self.inside (flat_value c.self.inside) (steps_of c.args.to.now) c.part_of-target.result c.len.result c.self.invariant c.len.ensures c.part_of-target.ensures.there c.part_of-target.ensures.whole c.part_of-target.ensures.found)
    (λ e. false≢true (sym c.if-not-is_like.true ∙ c.is_like.ensures.1 e)) refl)

pub slice-part-requires-clause-whole : goal.slice-part-requires-clause-whole
slice-part-requires-clause-whole c =
    let part : IsPartAt (flat_value c.other.inside) (steps_of c.args.from.now) c.part_at-source.result = rw (← c.other.view_is) at c.part_at-source.ensures.part in
    part.whole ∙ ap length (sym (c.as_slice.ensures.value ∙ c.other.invariant.bytes))

pub copy_from-requires-clause-long : goal.copy_from-requires-clause-long
copy_from-requires-clause-long c =
    let s = c.part_at-source.result in
    let part : IsPartAt (flat_value c.other.inside) (steps_of c.args.from.now) s = rw (← c.other.view_is) at c.part_at-source.ensures.part in
    let whole = part.whole ∙ ap length (sym (c.as_slice.ensures.value ∙ c.other.invariant.bytes)) in
    let inside : (part_range s).start + length_in (part_range s).layout ≤ length c.as_slice.result.now = omega (arith, part.there.inside, whole) in
    ap length c.slice-part.ensures ∙ range-long c.as_slice.result.now (part_range s) inside ∙ ap length_in (c.is_like.ensures.0 c.if-not-is_like.false)

-- what the cell holds after the copy
copied : (c : goal.After-self-1) → IsCopiedCell (record { owner = c.self.inside.owner; count = c.self.inside.count; bytes = with_items c.self.inside.bytes c.copy_from.new.bytes })
    c.args.other.now (flat_value c.self.inside) (steps_of c.args.from.now) (steps_of c.args.to.now)
copied c =
    let own = c.self.inside in
    let v = flat_value own in
    let u = c.args.other.now in
    let h = c.self.invariant in
    let s = c.part_at-source.result in
    let t = c.part_of-target.result in
    let new = c.copy_from.new.bytes in
    let other_bytes : c.as_slice.result.now ≡ buffer u = rw (← c.other.view_is) (c.as_slice.ensures.value ∙ c.other.invariant.bytes) in
    let part : c.slice-part.result.now ≡ bytes_in (buffer u) (part_range s) = c.slice-part.ensures ∙ ap (λ (b : List ℕ). bytes_in b (part_range s)) other_bytes in
    let long : own.bytes.len ≡ length new = omega (arith, c.copy_from.auto.bytes, c.as_mut_slice.ensures.len) in
    let kept : (with_items own.bytes new).items ≡ new = rw long (take-append_seam new _) in
    let moved : new ≡ overwritten (buffer v) t.start (bytes_in (buffer u) (part_range s)) =
    c.copy_from.ensures ∙ ap (λ (b : List ℕ). overwritten b t.start c.slice-part.result.now) (c.as_mut_slice.ensures.value ∙ h.bytes) ∙ ap (overwritten (buffer v) t.start) part in
    copied-cell own (with_items own.bytes new) u v (steps_of c.args.from.now) (steps_of c.args.to.now) s t h (record { storable = c.part_at-source.ensures.storable; laid = c.part_at-source.ensures.laid })
    c.part_at-source.ensures.part (part-is c.self.inside (flat_value c.self.inside) (steps_of c.args.to.now) c.part_of-target.result c.len.result c.self.invariant c.len.ensures c.part_of-target.ensures.there c.part_of-target.ensures.whole c.part_of-target.ensures.found) (c.is_like.ensures.0 c.if-not-is_like.false) (kept ∙ moved)

pub invariant_of-self : goal.invariant_of-self
invariant_of-self c = (copied c).holds

pub returns-clause-copied : goal.returns-clause-copied
returns-clause-copied c = rw (← c.self.view_is) (copied c).copied
