use Rattle.std.proofs.Common.{◌∙◌, refl, sym, arith}
use Rattle.wgsl_layout.specs.Plan.{plan_of}
use Rattle.wgsl_layout.proofs.Reading.{counted-there}
use Rattle.wgsl_layout.proofs.layout.Layout.part.Goals as goal

pub viewed-requires : goal.viewed-requires
viewed-requires c =
    let t = c.args.self.now in
    let there = counted-there t (plan_of t) c.args.len c.in-Some.count c.attest.ensures refl (sym c.count_in.ensures ∙ c.in-Some.is) in
    let within = there.inside in
    record { counted = there.counted; inside = omega (arith, within) }
