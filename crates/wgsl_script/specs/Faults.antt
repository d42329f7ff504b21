-- How the program ends on a fault: its status, and what it prints behind its name.
use Rattle.std.specs.Prelude.{ℕ, List, codes}
use Rattle.wgsl_script.specs.declared.fault.RunFault.{RunFault}
use Rattle.wgsl_script.specs.declared.fault.RunFault.TheVariants as faults

abbrev pub fault_status : RunFault → ℕ
fault_status faults.Read = 1
fault_status faults.Write = 1
fault_status faults.TooLong = 2
fault_status faults.Memory = 3

abbrev pub fault_text : RunFault → List ℕ
fault_text faults.Read = codes "read fault"
fault_text faults.Write = codes "write fault"
fault_text faults.TooLong = codes "input too long"
fault_text faults.Memory = codes "out of memory"
