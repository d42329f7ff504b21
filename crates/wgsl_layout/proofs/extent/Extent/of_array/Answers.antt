use Rattle.std.proofs.Common.{◌≡◌, None, refl, arith}
use Rattle.wgsl_rules.specs.Layout.{stride}
use Rattle.wgsl_rules.specs.Types.{array}
use Rattle.wgsl_rules.specs.View.{type_view}
use Rattle.wgsl_layout.specs.Plan.{plan_view}
use Rattle.wgsl_layout.proofs.Plans.{view-row}
use Rattle.wgsl_layout.proofs.lemmas.Extents.{array-size, array-within, open-extent}
use Rattle.wgsl_layout.proofs.extent.Extent.of_array.Goals as goal

pub overflow_mul-result : goal.overflow_mul-result
overflow_mul-result c =
    let t = type_view c.args.element.now in
    let planned = rw (c.in-Row.is, view-row) at c.requires.planned in
    let far : c.in-Row.far ≡ stride t = cc (planned) in
    let laid = rw c.in-Some.is at c.requires.laid in
    let le = array-within c.in-Some.n c.in-Row.far t laid far in
    omega (arith, le)

pub returns-in-Some : goal.returns-in-Some
returns-in-Some c =
    let t = type_view c.args.element.now in
    let planned = rw (c.in-Row.is, view-row) at c.requires.planned in
    let far : c.in-Row.far ≡ stride t = cc (planned) in
    let laid = rw c.in-Some.is at c.requires.laid in
    rw c.in-Some.is (array-size c.in-Some.n c.in-Row.far t laid far, refl)

pub returns-in-None : goal.returns-in-None
returns-in-None c =
    let t = type_view c.args.element.now in
    let planned = rw c.in-None.is at c.requires.planned in
    let laid = rw c.in-None.is at c.requires.laid in
    rw c.in-None.is (open-extent (array t None) (plan_view c.args.plan.now) c.tail.result laid refl planned c.tail.ensures)
