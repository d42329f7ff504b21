-- What is told is not nothing.
use Rattle.std.proofs.Common.{◌<◌, [], ◌∷◌, List, arith, length}
use Rattle.wgsl_report.specs.Faults.{fault_count}
use Rattle.wgsl_report.specs.declared.finding.Finding.{Finding}

-- a fault is one of them
pub faulty-some : (findings : List Finding) → 0 < fault_count findings → 0 < length findings
faulty-some [] some = omega (arith, some)
faulty-some (finding ∷ findings) some = omega arith
