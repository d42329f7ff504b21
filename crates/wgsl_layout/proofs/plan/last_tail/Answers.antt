use Rattle.std.proofs.Common.{◌≡◌, ◌+◌, ◌-◌, None, length, arith, sym, ◌∙◌}
use Rattle.wgsl_layout.proofs.Plans.{last-place}
use Rattle.wgsl_layout.proofs.plan.last_tail.Goals as goal

pub returns : goal.returns
returns c =
    let xs = c.args.places.now in
    let there : length xs - 1 + 1 ≡ length xs = omega (arith, c.if-n-eq0.false) in
    c.row_tail.ensures ∙ sym (last-place xs (length xs - 1) c.index-places-n.result None there c.index-places-n.is)
