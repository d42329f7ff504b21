use Rattle.std.proofs.Common.{◌∙◌, Some, length, rules, string_bytes, subst}
use Rattle.wgsl_rules.specs.Types.{Ty, struct}
use Rattle.wgsl_rules.specs.View.{type_view, members_view}
use Rattle.wgsl_rules.specs.declared.ty.StructType.{out-StructType}
use Rattle.wgsl_rules.specs.declared.ty.Type.{the_lemmas as type_lemmas}
use Rattle.wgsl_layout.specs.declared.plan.Plan.{the_lemmas as plan_lemmas}
use Rattle.wgsl_layout.specs.Plan.{plan_view, places_view}
use Rattle.wgsl_layout.specs.Sharing.{Suits}
use Rattle.wgsl_layout.proofs.Plans.{view-row, view-members}
use Rattle.wgsl_layout.proofs.Reading.{row-start, row-step, array-there, array-made, has-place, next-member, member-step, members-past, struct-of, struct-there, struct-made}
use Rattle.wgsl_layout.proofs.Sharing.{first-read, member-layout}
use Rattle.wgsl_layout.proofs.reader.+read.Goals as goal

pub read_array-loop-i-init : goal.read_array-loop-i-init
read_array-loop-i-init t c =
    let there = rw (c.in-Row.is, view-row) at c.requires.there in
    record {
      inside = (array-there c.args.n c.args.count c.unwrap_or-len.result c.in-Row.far (type_view c.args.element.now) (plan_view c.in-Row.part.value) c.args.base _ there c.unwrap_or-len.ensures).1;
      rest = row-start c.in_ok-elements.elements.items c.args.bytes.now c.args.base c.in-Row.far c.unwrap_or-len.result _ c.in_ok-elements.ensures.items;
    }

pub read_array-loop-i-preserved : goal.read_array-loop-i-preserved
read_array-loop-i-preserved t c = record {
  inside = c.loop-i.invariant.inside;
  rest = rw c.in_ok-push.ensures.items (row-step c.loop-i.elements.items c.in_ok-value.value c.args.bytes.now c.args.base c.in-Row.far c.loop-i.i c.unwrap_or-len.result _ _ c.loop-i-test.true c.in_ok-value.ensures c.loop-i.invariant.rest);
}

pub read_array-read_value-requires : goal.read_array-read_value-requires
read_array-read_value-requires t c =
    let l = c.loop-i in
    let n = c.args.count in
    let element = type_view c.args.element.now in
    let first = first-read l.elements.items _ c.args.bytes.now c.args.base c.in-Row.far c.unwrap_or-len.result n element l.invariant.rest in
    let there = l.invariant.inside l.i c.loop-i-test.true in
    let suits = c.element-types.ensures n element c.args.n c.requires.suits (rw c.as_slice.ensures.value first) in
    (search (rules, type_lemmas, plan_lemmas), (rw c.deref.ensures there, suits))

pub read_array-new-requires : goal.read_array-new-requires
read_array-new-requires t c =
    let there = rw (c.in-Row.is, view-row) at c.requires.there in
    (array-made c.loop-i.elements.items c.args.n c.args.count c.in-Row.far c.loop-i.i c.unwrap_or-len.result c.args.base _ c.args.bytes.now (type_view c.args.element.now) (plan_view c.in-Row.part.value) c.is_none-runtime_sized.result there
    c.unwrap_or-len.ensures c.is_none-runtime_sized.ensures c.loop-i-test.false c.loop-i.invariant.rest).storable

pub read_array-returns : goal.read_array-returns
read_array-returns t c =
    let there = rw (c.in-Row.is, view-row) at c.requires.there in
    c.new.ensures
    ∙ (array-made c.loop-i.elements.items c.args.n c.args.count c.in-Row.far c.loop-i.i c.unwrap_or-len.result c.args.base _ c.args.bytes.now (type_view c.args.element.now) (plan_view c.in-Row.part.value) c.is_none-runtime_sized.result there
    c.unwrap_or-len.ensures c.is_none-runtime_sized.ensures c.loop-i-test.false c.loop-i.invariant.rest).is

pub read_members-read_value-requires : goal.read_members-read_value-requires
read_members-read_value-requires t c =
    let ms = c.args.members.now in
    let ps = c.args.places.now in
    let l = c.loop-i in
    let below = has-place ms ps l.i c.args.count c.index-members-i.result c.args.base (length c.args.bytes.now) c.loop-i-test.true c.index-members-i.is l.invariant.there in
    let next = next-member ms ps l.i c.args.count c.index-members-i.result c.index-places-i.result c.args.base (length c.args.bytes.now) c.loop-i-test.true c.index-members-i.is below c.index-places-i.is l.invariant.there in
    let suits = c.requires.suits in
    let told = c.part-types.ensures c.args.count (struct suits.0 (members_view ms)) (type_view c.index-members-i.result.ty) suits.1
    (λ r e. member-layout ms l.i c.args.count (Some 0) c.index-members-i.result r c.loop-i-test.true c.index-members-i.is e) in
    (search (rules, type_lemmas, plan_lemmas), (next.there, told))

pub read_members-loop-i-preserved : goal.read_members-loop-i-preserved
read_members-loop-i-preserved t c =
    let ms = c.args.members.now in
    let ps = c.args.places.now in
    let l = c.loop-i in
    let m = c.index-members-i.result in
    let p = c.index-places-i.result in
    let below = has-place ms ps l.i c.args.count m c.args.base (length c.args.bytes.now) c.loop-i-test.true c.index-members-i.is l.invariant.there in
    let next = next-member ms ps l.i c.args.count m p c.args.base (length c.args.bytes.now) c.loop-i-test.true c.index-members-i.is below c.index-places-i.is l.invariant.there in
    record {
      there = next.rest;
      rest = rw c.in_ok-push.ensures.items (member-step ms ps l.i c.args.count m p l.values.items c.in_ok-value.value c.args.bytes.now c.args.base _ c.loop-i-test.true c.index-members-i.is below c.index-places-i.is
          c.in_ok-value.ensures l.invariant.rest);
    }

pub read_members-returns : goal.read_members-returns
read_members-returns t c =
    members-past c.args.members.now c.args.places.now c.loop-i.i c.args.count c.loop-i.values.items c.args.bytes.now c.args.base _ c.loop-i-test.false c.loop-i.invariant.rest

pub read_struct-read_members-requires : goal.read_struct-read_members-requires
read_struct-read_members-requires t c =
    let there = rw (c.in-Members.is, view-members, ← c.as_slice-2.ensures.value) at c.requires.there in
    let is = struct-of c.args.ty.now c.as_slice.result.now c.as_slice.ensures.value in (
      search (rules, type_lemmas, plan_lemmas),
      (
        struct-there c.args.ty.now c.as_slice.result.now c.args.count (places_view c.as_slice-2.result.now) c.args.base _ there c.as_slice.ensures.value,
        (string_bytes (out-StructType c.args.ty.now).name, subst (λ (u : Ty). Suits c.args.types c.args.count u) is c.requires.suits),
      ),
    )

pub read_struct-of_shared-requires : goal.read_struct-of_shared-requires
read_struct-of_shared-requires t c =
    let there = rw (c.in-Members.is, view-members, ← c.as_slice-2.ensures.value) at c.requires.there in
    (struct-made c.args.ty.now c.in_ok-structure.field-0 c.as_slice.result.now c.args.count (places_view c.as_slice-2.result.now) c.args.base _ c.args.bytes.now _ there c.as_slice.ensures.value c.in_ok-structure.ensures c.in_ok-members.ensures).storable

pub read_struct-returns : goal.read_struct-returns
read_struct-returns t c =
    let there = rw (c.in-Members.is, view-members, ← c.as_slice-2.ensures.value) at c.requires.there in
    c.of_shared.ensures
    ∙ (struct-made c.args.ty.now c.in_ok-structure.field-0 c.as_slice.result.now c.args.count (places_view c.as_slice-2.result.now) c.args.base _ c.args.bytes.now _ there c.as_slice.ensures.value c.in_ok-structure.ensures c.in_ok-members.ensures).is
