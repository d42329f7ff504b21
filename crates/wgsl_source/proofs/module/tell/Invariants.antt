use Rattle.std.proofs.Common.{All, take}
use Rattle.wgsl_source.specs.Faults.{IsTold}
use Rattle.wgsl_source.proofs.module.tell.Given as goal

abbrev pub invariant-loop-fault : goal.invariant-loop-fault
invariant-loop-fault l = All (IsTold l.faults.faults.items) (take l.fault-index l.found)
