use Rattle.wgsl_rules.specs.View.{struct_view}
use Rattle.wgsl_layout.specs.Plan.{plan_view}
use Rattle.wgsl_layout.proofs.Plans.{struct-size, view-members}
use Rattle.wgsl_layout.proofs.lemmas.Extents.{known-size, no-size, open-extent}
use Rattle.wgsl_layout.proofs.extent.Extent.of_struct.Goals as goal

pub returns-then-size-gt0 : goal.returns-then-size-gt0
returns-then-size-gt0 c =
    let planned = rw (c.in-Members.is, view-members) at c.requires.planned in
    known-size (struct_view c.args.ty.now) c.in-Members.size (struct-size c.args.ty.now c.in-Members.size _ planned) c.if-size-gt0.true

pub returns-else-size-gt0 : goal.returns-else-size-gt0
returns-else-size-gt0 c =
    let planned = rw (c.in-Members.is, view-members) at c.requires.planned in
    let open_ended = no-size (struct_view c.args.ty.now) c.in-Members.size (struct-size c.args.ty.now c.in-Members.size _ planned) c.if-size-gt0.false in
    open-extent (struct_view c.args.ty.now) (plan_view c.args.plan.now) c.tail.result c.requires.laid open_ended c.requires.planned c.tail.ensures
