-- What is told of a source.
use Rattle.std.specs.Prelude.{ℕ, List, ◌≡◌, ◌-◌, ◌^◌, ◌≤◌, min, nat_eq, take}
use Rattle.std.specs.List.{count_by}
use Rattle.wgsl_eval.specs.declared.message.Severity.{Severity}
use Rattle.wgsl_eval.specs.declared.message.Severity.TheVariants as severities
use Rattle.wgsl_c.specs.declared.answer.Answer.{Answer}
use Rattle.wgsl_c.specs.declared.answer.TheConstants.{FAULT}
use Rattle.wgsl_c.specs.declared.faults.Fault.{Fault}

-- those of the Language Server Protocol
abbrev pub severity_number : Severity → ℕ
severity_number severities.Fault = 1
severity_number severities.Warning = 2
severity_number severities.Note = 3

-- the column in characters is from 1, and the severity and the code are of those that there are
pub record IsFault (fault : Fault) : Type 0 where
  pub column_from_one : 1 ≤ fault.column
  pub severe : (1 ≤ fault.severity) × (fault.severity ≤ 3)
  pub known : fault.code ≤ 36

-- how many are errors
abbrev pub errors_in : List Fault → ℕ
errors_in faults = count_by (λ fault. nat_eq fault.severity 1) faults

-- of the records that are handed out the errors are counted
abbrev pub CountsErrors : Answer → List Fault → Type 0
CountsErrors answer records = answer.status ≤ FAULT → answer.number ≡ min (errors_in (take answer.length records)) (2 ^ 32 - 1)
