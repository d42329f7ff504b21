use Rattle.std.proofs.Common.{length, arith}
use Rattle.wgsl_source.proofs.OrderLemmas.{all_done}
use Rattle.wgsl_source.proofs.places.Places.into_order.Goals as goal

pub returns : goal.returns
returns c =
    all_done c.loop-declaration.self.order.items c.loop-declaration.self.marks.items (length c.args.self.marks.items) c.loop-declaration.self.once c.loop-declaration.invariant.0 (λ n h. c.loop-declaration.invariant.1 n (omega arith))
