use Rattle.std.proofs.Common.{◌∙◌, ap, string_bytes}
use Rattle.wgsl_rules.specs.View.{member_view}
use Rattle.wgsl_rules.specs.declared.ty.StructType.{out-StructType}
use Rattle.wgsl_rules.proofs.lemmas.Views.{struct_view-is}
use Rattle.wgsl_rules.proofs.lemmas.Members.{of-member}
use Rattle.wgsl_layout.specs.Plan.{plan_of}
use Rattle.wgsl_layout.proofs.Making.{with-member, offset-made, type-is, step, past, all-made}
use Rattle.wgsl_layout.proofs.make.TypePlan.+type_plans.Goals as goal

pub of_struct-returns : goal.of_struct-returns
of_struct-returns t c =
    rw (struct_view-is c.args.ty.now, ← c.as_slice.ensures.value) (c.of_members.ensures (string_bytes (out-StructType c.args.ty.now).name))

pub of_members-loop-member-preserved : goal.of_members-loop-member-preserved
of_members-loop-member-preserved t c =
    let l = c.loop-member in
    let m = c.member-item.result in
    let own = c.in_ok-part.ensures in
    let measures = c.of_member-measures.result in
    let is = of-member m c.in_ok-part.part.measures measures own.measures c.of_member-measures.ensures in
    let with = with-member (member_view m) l.so_far c.with-so_far.result measures is c.with-so_far.ensures.end c.with-so_far.ensures.align c.with-so_far.ensures.fixed c.with-so_far.ensures.runtime in
    let at = offset-made (member_view m) l.so_far.end measures c.offset_of.result c.unwrap_or-offset.result is c.offset_of.ensures c.unwrap_or-offset.ensures in
    rw c.in_ok-push.ensures.items
    (step c.args.members.now l.member-index m l.places.items _ l.so_far c.with-so_far.result c.loop-member-test.true c.member-item.is with
    at (own.plan ∙ ap plan_of (type-is m)) l.invariant)

pub of_members-returns : goal.of_members-returns
of_members-returns t c name =
    let l = c.loop-member in
    let all = past c.args.members.now l.member-index l.places.items l.so_far c.loop-member-test.false l.invariant in
    let m = c.of_struct-measures.ensures in
    all-made name c.args.members.now l.places l.so_far c.of_struct-measures.result c.have_layout.result c.fixed_size.result all m.size m.align m.fixed m.runtime c.have_layout.ensures c.fixed_size.ensures
