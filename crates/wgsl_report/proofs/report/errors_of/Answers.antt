use Rattle.std.proofs.Common.{arith}
use Rattle.wgsl_report.proofs.FaultLemmas.{faulty-some}
use Rattle.wgsl_report.proofs.report.errors_of.Goals as goal

pub returns : goal.returns
returns c = λ told. c.loop-finding.invariant (omega (arith, faulty-some c.args.findings.now told))
