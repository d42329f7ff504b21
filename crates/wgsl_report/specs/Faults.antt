-- What is told of a source, and which of it are faults.
use Rattle.std.specs.Prelude.{ℕ, Bool, true, false, ◌≡◌, ◌<◌, List, map, ◌++◌, MatchBool, nat_lt, String, string_bytes, string_len}
use Rattle.std.specs.declared.alloc.Global.{Global}
use Rattle.std.specs.List.{count_by}
use Rattle.wgsl_source.specs.declared.fault.Fault.{Fault}
use Rattle.wgsl_eval.specs.declared.message.Message.{Message}
use Rattle.wgsl_eval.specs.declared.message.Severity.{Severity}
use Rattle.wgsl_eval.specs.declared.message.Severity.TheVariants as severities
use Rattle.wgsl_report.specs.declared.finding.Finding.{Finding}

-- where what is wrong in the form and the messages begin
abbrev pub starts_in : List Fault → List Message → List ℕ
starts_in faults messages = map (λ f. f.start) faults ++ map (λ m. m.start) messages

-- what is wrong in the form is a fault, and a message what it says
abbrev pub severities_in : List Fault → List Message → List Severity
severities_in faults messages = map (λ f. severities.Fault) faults ++ map (λ m. m.severity) messages

abbrev pub is_severe : Severity → Bool
is_severe severities.Fault = true
is_severe severities.Warning = false
is_severe severities.Note = false

abbrev pub is_fault : Finding → Bool
is_fault finding = is_severe finding.severity

abbrev pub fault_count : List Finding → ℕ
fault_count findings = count_by is_fault findings

-- whether something is told: the text is longer then, and else it stays
abbrev pub TellsIf : Bool → String Global → String Global → Type 0
TellsIf is_told old new = MatchBool is_told (string_len old < string_len new) (string_bytes new ≡ string_bytes old)

-- the same of so many things
abbrev pub Tells : ℕ → String Global → String Global → Type 0
Tells count old new = TellsIf (nat_lt 0 count) old new
