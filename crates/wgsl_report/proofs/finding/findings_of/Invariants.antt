use Rattle.std.proofs.Common.{◌≡◌, [], map, take}
use Rattle.wgsl_report.specs.Faults.{severities_in, starts_in}
use Rattle.wgsl_report.proofs.finding.findings_of.Given as goal

-- those before are there
abbrev pub invariant-loop-fault : goal.invariant-loop-fault
invariant-loop-fault l = record {
  starts : map (λ f. f.start) l.found.items ≡ starts_in (take l.fault-index l.faults) [];
  severities : map (λ f. f.severity) l.found.items ≡ severities_in (take l.fault-index l.faults) [];
}

abbrev pub invariant-loop-message : goal.invariant-loop-message
invariant-loop-message l = record {
  starts : map (λ f. f.start) l.found.items ≡ starts_in l.fn.faults (take l.message-index l.messages);
  severities : map (λ f. f.severity) l.found.items ≡ severities_in l.fn.faults (take l.message-index l.messages);
}
