use Rattle.std.proofs.Common.{rules}
use Rattle.wgsl_value_ops.proofs.Totals.{sums_on, sum_refused}
use Rattle.wgsl_value_ops.proofs.mixed.total.Goals as goal

pub returns-in_err-sum : goal.returns-in_err-sum
returns-in_err-sum c =
    search (rules, sum_refused c.as_slice-components.result.now _ c.loop-i.i _ _ _ c.as_slice-components.ensures c.loop-i.invariant c.literal_at.ensures c.in_err-sum.ensures)

pub loop-i-preserved : goal.loop-i-preserved
loop-i-preserved c = sums_on c.as_slice-components.result.now c.loop-i.i _ _ _ c.loop-i.invariant c.literal_at.ensures c.in_ok-sum.ensures
