use Rattle.std.proofs.Common.{ℕ, IfOk, subst}
use Rattle.wgsl_source.specs.Orders.{IsOrderOf}
use Rattle.wgsl_source.proofs.FaultLemmas.{kept_then}
use Rattle.wgsl_source.proofs.order.order_of.Goals as goal

pub returns-in_err-go_on-clause-kept : goal.returns-in_err-go_on-clause-kept
returns-in_err-go_on-clause-kept c =
    kept_then c.args.faults.now.faults.items c.loop.faults.faults.items c.go_on.new.faults.faults.items c.loop.invariant.1 c.go_on.ensures.kept

pub returns-clause-order : goal.returns-clause-order
returns-clause-order c =
    let P : ℕ → Type 0 = λ n. IfOk c.into_order.result (λ order. IsOrderOf order.items n) in
    subst P c.loop-declaration.invariant.0 c.into_order.ensures
