use Rattle.std.proofs.Common.{◌≡◌, ◌∙◌, List, ℕ, length, ap, sym, arith, refl}
use Rattle.std.specs.Vec.{with_items}
use Rattle.std.proofs.lemmas.Bool.{false≢true}
use Rattle.std.proofs.Math.Seq.{take-append_seam}
use Rattle.wgsl_values.specs.View.{steps_of}
use Rattle.wgsl_layout.specs.Buffers.{buffer}
use Rattle.wgsl_layout.specs.FlatCells.{flat_value}
use Rattle.wgsl_layout.specs.Located.{part_range}
use Rattle.wgsl_layout.specs.Ranges.{bytes_in, overwritten}
use Rattle.wgsl_layout.proofs.Copies.{IsCopiedCell, copied-cell, has-bytes, not-copied}
use Rattle.wgsl_layout.proofs.FlatPuts.{has-room, leads-there, part-is}
use Rattle.wgsl_layout.proofs.flat.FlatCell.copy_within.Goals as goal

pub part_of-source-requires-clause-room : goal.part_of-source-requires-clause-room
part_of-source-requires-clause-room c = has-room c.self.inside (flat_value c.self.inside) c.len.result c.self.invariant c.len.ensures

pub part_of-source-requires-clause-there : goal.part_of-source-requires-clause-there
part_of-source-requires-clause-there c = leads-there c.self.inside (flat_value c.self.inside) (steps_of c.args.from.now) c.self.invariant (rw (← c.self.view_is) at c.requires.from)

pub part_of-target-requires-clause-room : goal.part_of-target-requires-clause-room
part_of-target-requires-clause-room c = has-room c.self.inside (flat_value c.self.inside) c.len-2.result c.self.invariant c.len-2.ensures

pub part_of-target-requires-clause-there : goal.part_of-target-requires-clause-there
part_of-target-requires-clause-there c = leads-there c.self.inside (flat_value c.self.inside) (steps_of c.args.to.now) c.self.invariant (rw (← c.self.view_is) at c.requires.to)

pub returns-then-not-is_like-clause-copied : goal.returns-then-not-is_like-clause-copied
returns-then-not-is_like-clause-copied c =
    let v = flat_value c.self.inside in
    let own = has-bytes c.self.inside v c.self.invariant in
    rw (← c.self.view_is) (not-copied v v v (steps_of c.args.from.now) (steps_of c.args.to.now) c.part_of-source.result c.part_of-target.result own own (part-is c.self.inside (flat_value c.self.inside) (steps_of c.args.from.now) c.part_of-source.result c.len.result c.self.invariant c.len.ensures c.part_of-source.ensures.there c.part_of-source.ensures.whole c.part_of-source.ensures.found) (part-is c.self.inside (flat_value c.self.inside) (steps_of c.args.to.now) c.part_of-target.result c.len-2.result c.self.invariant c.len-2.ensures c.part_of-target.ensures.there c.part_of-target.ensures.whole c.part_of-target.ensures.found)
    (λ e. false≢true (sym c.if-not-is_like.true ∙ c.is_like.ensures.1 e)) refl)

-- what the cell holds after the copy
copied : (c : goal.After-self-1) → IsCopiedCell (record { owner = c.self.inside.owner; count = c.self.inside.count; bytes = with_items c.self.inside.bytes c.copy_within.new.bytes })
    (flat_value c.self.inside) (flat_value c.self.inside) (steps_of c.args.from.now) (steps_of c.args.to.now)
copied c =
    let own = c.self.inside in
    let v = flat_value own in
    let h = c.self.invariant in
    let s = c.part_of-source.result in
    let t = c.part_of-target.result in
    let new = c.copy_within.new.bytes in
    let long : own.bytes.len ≡ length new = omega (arith, c.copy_within.auto.bytes, c.as_mut_slice.ensures.len) in
    let kept : (with_items own.bytes new).items ≡ new = rw long (take-append_seam new _) in
    let moved : new ≡ overwritten (buffer v) t.start (bytes_in (buffer v) (part_range s)) =
    c.copy_within.ensures ∙ ap (λ (b : List ℕ). overwritten b t.start (bytes_in b (part_range s))) (c.as_mut_slice.ensures.value ∙ h.bytes) in
    copied-cell own (with_items own.bytes new) v v (steps_of c.args.from.now) (steps_of c.args.to.now) s t h (has-bytes own v h) (part-is c.self.inside (flat_value c.self.inside) (steps_of c.args.from.now) c.part_of-source.result c.len.result c.self.invariant c.len.ensures c.part_of-source.ensures.there c.part_of-source.ensures.whole c.part_of-source.ensures.found) (part-is c.self.inside (flat_value c.self.inside) (steps_of c.args.to.now) c.part_of-target.result c.len-2.result c.self.invariant c.len-2.ensures c.part_of-target.ensures.there c.part_of-target.ensures.whole c.part_of-target.ensures.found) (c.is_like.ensures.0 c.if-not-is_like.false) (kept ∙ moved)

pub invariant_of-self : goal.invariant_of-self
invariant_of-self c = (copied c).holds

pub returns-clause-copied : goal.returns-clause-copied
returns-clause-copied c = rw (← c.self.view_is) (copied c).copied
