use Rattle.std.proofs.Common.{◌<◌, Some, None, length}
use Rattle.wgsl_nodes.proofs.Texts.{nothing-led, some-left, none-left}
use Rattle.wgsl_nodes.proofs.paths.follow.Goals as goal

pub loop-rest-preserved : goal.loop-rest-preserved
loop-rest-preserved c = λ r h.
    let on = c.in_ok-next.ensures (some-left c.is_empty.result (length c.loop-rest.rest.now) c.is_empty.ensures c.loop-rest-test.true) in
    c.loop-rest.invariant r (on.onward r h)

pub returns : goal.returns
returns c =
    c.loop-rest.invariant (Some c.loop-rest.place)
    (nothing-led c.args.nodes.now c.args.names.now c.args.len c.loop-rest.place c.loop-rest.rest.now (none-left c.is_empty.result c.loop-rest.rest.now c.is_empty.ensures c.loop-rest-test.false))

pub returns-in_err-next : goal.returns-in_err-next
returns-in_err-next c =
    let some : 0 < length c.loop-rest.rest.now = some-left c.is_empty.result (length c.loop-rest.rest.now) c.is_empty.ensures c.loop-rest-test.true in
    rw c.from_residual.ensures (c.loop-rest.invariant None (c.in_err-next.ensures some))
