use Rattle.wgsl_source.specs.Faults.{KeepsFaults}
use Rattle.wgsl_source.proofs.module.add_refused.Given as goal

abbrev pub invariant-loop-fault : goal.invariant-loop-fault
invariant-loop-fault l = KeepsFaults l.fn.faults.faults.items l.faults.faults.items
