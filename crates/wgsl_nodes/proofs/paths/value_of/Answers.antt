use Rattle.std.proofs.Common.{get_or, refl}
use Rattle.wgsl_nodes.proofs.Texts.{too-long}
use Rattle.wgsl_nodes.proofs.paths.value_of.Goals as goal

pub returns-in_err-value : goal.returns-in_err-value
returns-in_err-value c =
    let ds = c.args.digits.now in
    rw c.from_residual.ensures (too-long ds c.loop-b.b-index (get_or ds c.loop-b.b-index 0) c.loop-b.value c.loop-b-test.true refl c.loop-b.invariant c.in_err-value.ensures)
