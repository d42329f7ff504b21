use Rattle.std.proofs.Common.{◌≡◌, ◌∙◌, length, ap, sym, arith}
use Rattle.std.proofs.lemmas.Bool.{false≢true}
use Rattle.std.specs.Vec.{with_items}
use Rattle.std.proofs.Math.Seq.{take-append_seam}
use Rattle.wgsl_rules.specs.Paths.{viewed}
use Rattle.wgsl_rules.specs.Values.{type_of}
use Rattle.wgsl_values.specs.View.{reference_of, steps_of}
use Rattle.wgsl_layout.specs.Buffers.{buffer, decode, decoded}
use Rattle.wgsl_layout.specs.Fitting.{LeadsIn}
use Rattle.wgsl_layout.specs.FlatCells.{flat_value}
use Rattle.wgsl_layout.specs.Located.{part_range, shape_plan}
use Rattle.wgsl_layout.specs.Walk.{put}
use Rattle.wgsl_layout.proofs.FlatPuts.{has-room, leads-there}
use Rattle.wgsl_layout.proofs.LaidParts.{IsTarget, IsWrittenCell, done, leads-ok, misfit, no-value, not-write, target-at, target-long}
use Rattle.wgsl_layout.proofs.flat.FlatCell.put_bytes.Goals as goal

pub part_of-part-requires-clause-room : goal.part_of-part-requires-clause-room
part_of-part-requires-clause-room c = has-room c.self.inside (flat_value c.self.inside) c.len.result c.self.invariant c.len.ensures

pub part_of-part-requires-clause-there : goal.part_of-part-requires-clause-there
part_of-part-requires-clause-there c =
    let v = flat_value c.self.inside in
    let r = reference_of c.args.reference.now in
    let leads : LeadsIn v r = rw (← c.self.view_is) at c.requires in
    leads-there c.self.inside v (steps_of c.view.result.now) c.self.invariant (rw c.view.ensures (leads-ok (viewed r.view v) (λ x. type_of x ≡ r.ty) leads))

pub returns-in_default-clause-put : goal.returns-in_default-clause-put
returns-in_default-clause-put c =
    let v = flat_value c.self.inside in
    let r = reference_of c.args.reference.now in
    let b = c.args.bytes.now in
    let part = c.part_of-part.result in
    let at : IsTarget v r part =
    target-at c.self.inside r part c.len.result (steps_of c.view.result.now) c.self.invariant c.len.ensures c.part_of-part.ensures.there c.part_of-part.ensures.whole c.view.ensures c.part_of-part.ensures.found (rw (← c.self.view_is) at c.requires) in
    rw (← c.self.view_is) (no-value v r part b at (sym c.count_in.ensures ∙ c.in_default.is))

pub returns-then-not-may_write-clause-put : goal.returns-then-not-may_write-clause-put
returns-then-not-may_write-clause-put c =
    let v = flat_value c.self.inside in
    let r = reference_of c.args.reference.now in
    let b = c.args.bytes.now in
    let part = c.part_of-part.result in
    let at : IsTarget v r part =
    target-at c.self.inside r part c.len.result (steps_of c.view.result.now) c.self.invariant c.len.ensures c.part_of-part.ensures.there c.part_of-part.ensures.whole c.view.ensures c.part_of-part.ensures.found (rw (← c.self.view_is) at c.requires) in
    rw (← c.self.view_is) (not-write v r part b c.in-Some.count at (sym c.count_in.ensures ∙ c.in-Some.is)
    (sym c.may_write.ensures ∙ c.if-not-may_write.true))

pub returns-then-not-has_count-clause-put : goal.returns-then-not-has_count-clause-put
returns-then-not-has_count-clause-put c =
    let v = flat_value c.self.inside in
    let r = reference_of c.args.reference.now in
    let b = c.args.bytes.now in
    let part = c.part_of-part.result in
    let at : IsTarget v r part =
    target-at c.self.inside r part c.len.result (steps_of c.view.result.now) c.self.invariant c.len.ensures c.part_of-part.ensures.there c.part_of-part.ensures.whole c.view.ensures c.part_of-part.ensures.found (rw (← c.self.view_is) at c.requires) in
    rw (← c.self.view_is) (misfit v r part b c.in-Some.count at (sym c.count_in.ensures ∙ c.in-Some.is)
    (sym c.may_write.ensures ∙ c.if-not-may_write.false)
    (λ k. false≢true (sym c.if-not-has_count.true ∙ c.has_count.ensures.1 k)))

pub copy_numbers-requires-clause-long : goal.copy_numbers-requires-clause-long
copy_numbers-requires-clause-long c =
    let v = flat_value c.self.inside in
    let r = reference_of c.args.reference.now in
    let b = c.args.bytes.now in
    let part = c.part_of-part.result in
    let at : IsTarget v r part =
    target-at c.self.inside r part c.len.result (steps_of c.view.result.now) c.self.invariant c.len.ensures c.part_of-part.ensures.there c.part_of-part.ensures.whole c.view.ensures c.part_of-part.ensures.found (rw (← c.self.view_is) at c.requires) in
    target-long v r part b c.in-Some.count at (sym c.count_in.ensures ∙ c.in-Some.is) (c.has_count.ensures.0 c.if-not-has_count.false)

-- what the cell holds after the copy
written : (c : goal.After-self-1) → IsWrittenCell (record { owner = c.self.inside.owner; count = c.self.inside.count; bytes = with_items c.self.inside.bytes c.copy_numbers.new.out })
    (flat_value c.self.inside) (reference_of c.args.reference.now) (decode c.args.bytes.now (reference_of c.args.reference.now).ty)
written c =
    let v = flat_value c.self.inside in
    let r = reference_of c.args.reference.now in
    let b = c.args.bytes.now in
    let part = c.part_of-part.result in
    let at : IsTarget v r part =
    target-at c.self.inside r part c.len.result (steps_of c.view.result.now) c.self.invariant c.len.ensures c.part_of-part.ensures.there c.part_of-part.ensures.whole c.view.ensures c.part_of-part.ensures.found (rw (← c.self.view_is) at c.requires) in
    let own = c.self.inside in
    let new = c.copy_numbers.new.out in
    let long : own.bytes.len ≡ length new = omega (arith, c.copy_numbers.auto.out, c.as_mut_slice.ensures.len) in
    let kept : (with_items own.bytes new).items ≡ new = rw long (take-append_seam new _) in
    let w = decoded b 0 (part_range part).layout in
    let copied : new ≡ put w (shape_plan part.shape) part.start (buffer v) =
    c.copy_numbers.ensures ∙ ap (put w (shape_plan part.shape) part.start) (c.as_mut_slice.ensures.value ∙ c.self.invariant.bytes) in
    done own (with_items own.bytes new) v r part b c.in-Some.count c.self.invariant at (sym c.count_in.ensures ∙ c.in-Some.is)
    (sym c.may_write.ensures ∙ c.if-not-may_write.false)
    (c.has_count.ensures.0 c.if-not-has_count.false) (kept ∙ copied)

pub invariant_of-self : goal.invariant_of-self
invariant_of-self c = (written c).holds

pub returns-clause-put : goal.returns-clause-put
returns-clause-put c = rw (← c.self.view_is) (written c).came
