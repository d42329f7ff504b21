-- What is told of a source.
use Rattle.std.specs.Prelude.{◌≡◌, List, [], ◌∷◌, ◌++◌, All, IsPermutation, length, nat_lt, if◌then◌else◌}
use Rattle.wgsl_eval.specs.declared.answer.Answer.{Answer}
use Rattle.wgsl_eval.specs.declared.answer.Answer.TheVariants as answers
use Rattle.wgsl_eval.specs.declared.message.Message.{Message}
use Rattle.wgsl_eval.specs.declared.message.Severity.TheVariants as severities

abbrev pub IsFaultMessage : Message → Type 0
IsFaultMessage m = m.severity ≡ severities.Fault

abbrev pub IsWarning : Message → Type 0
IsWarning m = m.severity ≡ severities.Warning

-- the faults with one more, where fewer than 100 are told
abbrev pub added : List Message → Message → List Message
added faults m = if nat_lt (length faults) 100 then faults ++ m ∷ [] else faults

-- the faults with that of an answer, where it is one
abbrev pub faults_with : List Message → Answer → List Message
faults_with faults (answers.Wrong m guard) = added faults m
faults_with faults a = faults

-- the message of an answer that is a fault
abbrev pub fault_in : Answer → List Message
fault_in (answers.Wrong m guard) = m ∷ []
fault_in a = []

-- the faults with all of these, the last one first
abbrev pub all_added : List Message → List Message → List Message
all_added faults [] = faults
all_added faults (m ∷ ms) = added (all_added faults ms) m

-- these are told: all the faults, and warnings beside them
abbrev pub AreTold : List Message → List Message → Type 0
AreTold faults messages = (warnings : List Message) × All IsWarning warnings × IsPermutation (faults ++ warnings) messages
