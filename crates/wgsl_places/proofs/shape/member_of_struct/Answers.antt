use Rattle.std.proofs.Common.{sym}
use Rattle.wgsl_places.specs.Steps.{shape_ty}
use Rattle.wgsl_places.proofs.Named.{member-step}
use Rattle.wgsl_layout.proofs.Locating.{named-below}
use Rattle.wgsl_places.proofs.shape.member_of_struct.Goals as goal

pub type_of_member-requires : goal.type_of_member-requires
type_of_member-requires c = named-below c.args.name.now c.as_slice-members.result.now c.in_ok-i.i (sym c.in_ok-i.ensures)

pub returns : goal.returns
returns c =
    member-step c.args.ty.now c.as_slice-members.result.now c.args.name.now c.in_ok-i.i (shape_ty c.type_of_member.result) c.as_slice-members.ensures.value c.in_ok-i.ensures c.type_of_member.ensures
