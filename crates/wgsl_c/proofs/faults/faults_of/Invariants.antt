use Rattle.std.proofs.Common.{All}
use Rattle.wgsl_c.specs.Faults.{IsFault}
use Rattle.wgsl_c.proofs.faults.faults_of.Given as goal

-- so far each is one
abbrev pub invariant-loop-finding : goal.invariant-loop-finding
invariant-loop-finding l = All IsFault l.faults.items
