use Rattle.std.proofs.Common.{◌∙◌, length, rules}
use Rattle.wgsl_rules.specs.View.{type_view}
use Rattle.wgsl_rules.specs.declared.ty.Type.{the_lemmas as type_lemmas}
use Rattle.wgsl_layout.specs.declared.plan.Plan.{the_lemmas as plan_lemmas}
use Rattle.wgsl_layout.specs.Plan.{plan_view, places_view}
use Rattle.wgsl_layout.proofs.Plans.{view-row, view-members}
use Rattle.wgsl_layout.proofs.Reading.{array-there, has-place, next-member, struct-there}
use Rattle.wgsl_layout.proofs.Copying.{row-start, row-next, member-next, struct-copied}
use Rattle.wgsl_layout.proofs.copier.+copy.Goals as goal

pub copy_array-loop-i-init : goal.copy_array-loop-i-init
copy_array-loop-i-init t c =
    let n = c.args.n in
    let far = c.in-Row.far in
    let element = type_view c.args.element.now in
    let p = plan_view c.in-Row.part.value in
    let from = rw (c.in-Row.is, view-row) at c.requires.from in
    let to = rw (c.in-Row.is, view-row) at c.requires.to in
    record {
      inside = (array-there n c.args.count c.unwrap_or-len.result far element p c.args.at (length c.args.bytes.now) from c.unwrap_or-len.ensures).1;
      room = (array-there n c.args.count c.unwrap_or-len.result far element p c.args.base (length c.args.out.now) to c.unwrap_or-len.ensures).1;
      rest = row-start c.args.bytes.now c.args.at far c.unwrap_or-len.result _ _ c.args.base c.args.out.now;
    }

pub copy_array-loop-i-preserved : goal.copy_array-loop-i-preserved
copy_array-loop-i-preserved t c = record {
  inside = c.loop-i.invariant.inside;
  room = rw c.copy_numbers.auto.out c.loop-i.invariant.room;
  rest = row-next c.args.bytes.now c.args.at c.in-Row.far c.unwrap_or-len.result _ (plan_view c.in-Row.part.value) c.loop-i.i c.args.base c.loop-i.out c.copy_numbers.new.out _ c.loop-i-test.true (rw c.deref.ensures at c.copy_numbers.ensures) c.loop-i.invariant.rest;
}

pub copy_members-copy_numbers-requires : goal.copy_members-copy_numbers-requires
copy_members-copy_numbers-requires t c =
    let ms = c.args.members.now in
    let ps = c.args.places.now in
    let l = c.loop-i in
    let m = c.index-members-i.result in
    let p = c.index-places-i.result in
    let below = has-place ms ps l.i c.args.count m c.args.at (length c.args.bytes.now) c.loop-i-test.true c.index-members-i.is l.invariant.there in
    let from = next-member ms ps l.i c.args.count m p c.args.at (length c.args.bytes.now) c.loop-i-test.true c.index-members-i.is below c.index-places-i.is l.invariant.there in
    let to = next-member ms ps l.i c.args.count m p c.args.base (length l.out) c.loop-i-test.true c.index-members-i.is below c.index-places-i.is l.invariant.room in
    (search (rules, type_lemmas, plan_lemmas), (from.there, to.there))

pub copy_members-loop-i-preserved : goal.copy_members-loop-i-preserved
copy_members-loop-i-preserved t c =
    let ms = c.args.members.now in
    let ps = c.args.places.now in
    let l = c.loop-i in
    let m = c.index-members-i.result in
    let p = c.index-places-i.result in
    let below = has-place ms ps l.i c.args.count m c.args.at (length c.args.bytes.now) c.loop-i-test.true c.index-members-i.is l.invariant.there in
    let from = next-member ms ps l.i c.args.count m p c.args.at (length c.args.bytes.now) c.loop-i-test.true c.index-members-i.is below c.index-places-i.is l.invariant.there in
    let to = next-member ms ps l.i c.args.count m p c.args.base (length l.out) c.loop-i-test.true c.index-members-i.is below c.index-places-i.is l.invariant.room in
    record {
      there = from.rest;
      room = rw c.copy_numbers.auto.out to.rest;
      rest = member-next ms ps l.i c.args.count m p c.args.bytes.now c.args.at c.args.base l.out c.copy_numbers.new.out _ c.loop-i-test.true c.index-members-i.is below c.index-places-i.is c.copy_numbers.ensures l.invariant.rest;
    }

pub copy_struct-copy_members-requires : goal.copy_struct-copy_members-requires
copy_struct-copy_members-requires t c =
    let from = rw (c.in-Members.is, view-members, ← c.as_slice-2.ensures.value) at c.requires.from in
    let to = rw (c.in-Members.is, view-members, ← c.as_slice-2.ensures.value) at c.requires.to in
    let ps = places_view c.as_slice-2.result.now in (
      search (rules, type_lemmas, plan_lemmas),
      (struct-there c.args.ty.now c.as_slice.result.now c.args.count ps c.args.at _ from c.as_slice.ensures.value, struct-there c.args.ty.now c.as_slice.result.now c.args.count ps c.args.base _ to c.as_slice.ensures.value),
    )

pub copy_struct-returns : goal.copy_struct-returns
copy_struct-returns t c =
    let from = rw (c.in-Members.is, view-members, ← c.as_slice-2.ensures.value) at c.requires.from in
    rw (c.in-Members.is, view-members, ← c.as_slice-2.ensures.value)
    (c.copy_members.ensures ∙ struct-copied c.args.ty.now c.as_slice.result.now c.args.count (places_view c.as_slice-2.result.now) c.args.bytes.now c.args.at _ c.args.base c.args.out.now from c.as_slice.ensures.value)
