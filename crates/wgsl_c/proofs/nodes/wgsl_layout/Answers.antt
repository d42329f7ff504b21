use Rattle.std.proofs.Common.{List, inr, subst, sym}
use Rattle.wgsl_nodes.specs.declared.nodes.Node.{Node}
use Rattle.wgsl_c.specs.Records.{IsTableOf}
use Rattle.wgsl_c.proofs.nodes.wgsl_layout.Goals as goal

pub returns-in-Some-clause-answer : goal.returns-in-Some-clause-answer
returns-in-Some-clause-answer c =
    let made : IsTableOf c.args.source.now c.args.name.now c.args.stage c.args.flags c.in-Some.nodes.items = rw c.in-Some.is at c.in-Ok.ensures.records in
    let lent = subst (λ (nodes : List Node). IsTableOf c.args.source.now c.args.name.now c.args.stage c.args.flags nodes) (sym c.as_slice.ensures.value) made in
    c.given_records.ensures c.args.source.now c.args.name.now c.args.stage c.args.flags (inr lent)
