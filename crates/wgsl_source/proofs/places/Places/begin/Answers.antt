use Rattle.wgsl_source.proofs.OrderLemmas.{begun-once}
use Rattle.wgsl_source.proofs.places.Places.begin.Goals as goal

pub invariant_of-self : goal.invariant_of-self
invariant_of-self c = record {
  once = begun-once c.args.self.now.order.items c.args.self.now.marks.items c.args.declaration c.args.self.now.once (cc (c.mark_of.ensures));
}
