use Rattle.std.proofs.Common.{◌≡◌, true, false, refl, sym}
use Rattle.wgsl_apply.specs.Standard.{is_past_width_at}
use Rattle.wgsl_values.specs.View.{value_of}
use Rattle.wgsl_apply.proofs.Shifts.{past-at, one-more}
use Rattle.wgsl_apply.proofs.standard.against_shift.Goals as goal

pub returns-then-is_past_width : goal.returns-then-is_past_width
returns-then-is_past_width c =
    let v = value_of c.args.left.now in
    let w = value_of c.args.right.now in
    let here : is_past_width_at v w c.loop-at.at ≡ true = sym (rw (c.component.ensures, c.component-in-loop-at.ensures) at c.if-is_past_width.ensures) in
    rw (past-at v w c.loop-at.at c.loop-at-test.true here, ← c.if-is_runtime.ensures) refl

pub loop-at-preserved : goal.loop-at-preserved
loop-at-preserved c =
    let v = value_of c.args.left.now in
    let w = value_of c.args.right.now in
    let here : is_past_width_at v w c.loop-at.at ≡ false = sym (rw (c.component.ensures, c.component-in-loop-at.ensures) at c.if-is_past_width.ensures) in
    one-more (is_past_width_at v w) c.loop-at.at here c.loop-at.invariant
