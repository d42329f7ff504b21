use Rattle.std.proofs.Common.{◌∙◌, length, sym}
use Rattle.wgsl_rules.specs.View.{type_view}
use Rattle.wgsl_layout.specs.Plan.{plan_view}
use Rattle.wgsl_layout.proofs.Reading.{counted-there}
use Rattle.wgsl_layout.proofs.reader.read_buffer.Goals as goal

pub read_value-requires-clause-there : goal.read_value-requires-clause-there
read_value-requires-clause-there c =
    let t = type_view c.args.ty.now in
    let plan = c.in_ok-of_type.ensures in
    let laid = sym plan.layout ∙ c.if-not-of_type.false in
    counted-there t (plan_view c.in_ok-of_type.of_type.plan) (length c.args.bytes.now) c.in-Some.count laid plan.plan (sym (c.count_in.ensures t (c.extent.ensures t plan laid)) ∙ c.in-Some.is)
