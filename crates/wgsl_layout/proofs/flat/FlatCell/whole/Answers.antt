use Rattle.std.proofs.Common.{◌≡◌, ◌∙◌, ap, length, arith}
use Rattle.wgsl_rules.specs.Layout.{layout}
use Rattle.wgsl_rules.specs.Types.{Ty}
use Rattle.wgsl_layout.specs.Buffers.{decoded}
use Rattle.wgsl_layout.specs.FlatCells.{flat_value}
use Rattle.wgsl_layout.specs.Ranges.{Range}
use Rattle.wgsl_layout.proofs.FlatPuts.{has-room}
use Rattle.wgsl_layout.proofs.flat.FlatCell.whole.Goals as goal

pub whole-requires : goal.whole-requires
whole-requires c = rw c.layout.ensures (has-room c.self.inside (flat_value c.self.inside) c.len.result c.self.invariant c.len.ensures)

pub returns-clause-value : goal.returns-clause-value
returns-clause-value c =
    let own = c.self.inside in
    rw (← c.self.view_is) (ap (λ (r : Range). decoded c.as_slice.result.now r.start r.layout) c.whole.ensures.range
    ∙ ap (λ (b : _). decoded b 0 (layout own.count c.layout.result.now)) c.as_slice.ensures.value
    ∙ ap (λ (t : Ty). decoded own.bytes.items 0 (layout own.count t)) c.layout.ensures)

pub returns-clause-part : goal.returns-clause-part
returns-clause-part c =
    let long : c.len.result ≡ length c.as_slice.result.now = omega (arith, c.len.ensures, c.as_slice.ensures.len) in
    record { there = c.whole.ensures.there; whole = c.whole.ensures.len ∙ long }
