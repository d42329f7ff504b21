use Rattle.std.proofs.Common.{arith}
use Rattle.wgsl_nodes.proofs.Rows.{row-step}
use Rattle.wgsl_nodes.proofs.numbers.read_row.Goals as goal

pub loop-i-preserved : goal.loop-i-preserved
loop-i-preserved c = row-step c.args.bytes.now c.args.out.now c.loop-i.out c.args.at c.args.width c.loop-i.i c.number_at.result (omega arith) c.loop-i.invariant c.number_at.ensures
