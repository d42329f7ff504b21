use Rattle.std.proofs.Common.{◌∙◌, ap₂}
use Rattle.wgsl_rules.specs.Size.{with_both, round_up}
use Rattle.wgsl_rules.proofs.Elements.{size-is}
use Rattle.wgsl_rules.proofs.places.struct_size_with.Goals as goal

pub returns : goal.returns
returns c =
    let front = c.measure_members.ensures in
    c.of_struct.ensures.size ∙ ap₂ (with_both round_up) c.with-all.ensures.align c.with-all.ensures.end
    ∙ size-is c.args.elements c.args.members.now c.in-Some.front.now c.in-Some.last.now c.measures_with.result c.of_member-last.result _ _
    c.in-Some.ensures.cases.0 c.measures_with.ensures c.of_member-last.ensures front.end front.align
