use Rattle.std.proofs.Common.{◌∙◌}
use Rattle.wgsl_layout.proofs.Plans.{view-members}
use Rattle.wgsl_layout.proofs.Locating.{named, named-range}
use Rattle.wgsl_layout.proofs.located.Located.member_of_struct.Goals as goal

pub member_at-requires : goal.member_at-requires
member_at-requires c =
    let there = rw (c.in-Members.is, view-members, ← c.as_slice.ensures.value) at c.requires in
    let is = named c.args.ty.now c.as_slice-members.result.now c.as_slice.result.now c.args.name.now c.in_ok-i.i c.args.self.count c.args.self.start c.args.self.len there c.as_slice-members.ensures.value c.in_ok-i.ensures in
    record { below = is.below; there = is.there; planned = is.planned }

pub returns-clause-range : goal.returns-clause-range
returns-clause-range c =
    c.member_at.ensures.range
    ∙ named-range c.args.ty.now c.as_slice-members.result.now c.args.name.now c.in_ok-i.i c.args.self.count c.args.self.start c.as_slice-members.ensures.value c.in_ok-i.ensures
