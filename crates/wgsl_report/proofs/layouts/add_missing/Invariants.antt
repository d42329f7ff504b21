use Rattle.wgsl_report.specs.Faults.{Tells}
use Rattle.wgsl_report.proofs.layouts.add_missing.Given as goal

-- so many are told so far
abbrev pub invariant-loop-name : goal.invariant-loop-name
invariant-loop-name l = Tells l.missing l.fn.errors l.errors
