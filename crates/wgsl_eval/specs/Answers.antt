-- What steps leave, as contracts see it.
use Rattle.std.specs.Prelude.{◌≡◌, ◌-◌, ◌^◌, ℕ, min, Bool, true, false, Option, Some, None, List, slice_get, unwrap_or, ⊤, All}
use Rattle.wgsl_rules.specs.Values.{Val, IsStorable}
use Rattle.wgsl_values.specs.View.{value_of}
use Rattle.wgsl_values.specs.declared.instance.Instance.{Instance}
use Rattle.wgsl_eval.specs.declared.answer.Answer.{Answer}
use Rattle.wgsl_eval.specs.declared.answer.Answer.TheVariants as answers
use Rattle.wgsl_eval.specs.Messages.{IsFaultMessage}
use Rattle.wgsl_eval.specs.declared.answer.Guard.{Guard}
use Rattle.wgsl_eval.specs.declared.answer.Guard.TheVariants as guards
use Rattle.wgsl_eval.specs.declared.answer.Need.{Need}
use Rattle.wgsl_eval.specs.declared.answer.Need.TheVariants as needs
use Rattle.wgsl_eval.specs.declared.answer.Part.TheVariants as parts
use Rattle.wgsl_eval.specs.declared.answer.Value.{Value}
use Rattle.wgsl_eval.specs.declared.evaluation.Outcome.{Outcome}
use Rattle.wgsl_eval.specs.declared.evaluation.Outcome.TheVariants as outcomes

-- a number that stays at the largest of 64 bits
abbrev pub at_most_largest : ℕ → ℕ
at_most_largest n = min n (2 ^ 64 - 1)

-- the value of an answer that is one
abbrev pub value_in : Answer → Option Val
value_in (answers.Value v) = Some (value_of v.instance)
value_in a = None

-- a value that a cell may hold
abbrev pub IsSoundValue : Value → Type 0
IsSoundValue v = IsStorable (value_of v.instance)

-- an answer whose value, if it has one, may be stored, and whose message, if it has one, is a fault; what names a value is none
abbrev pub IsAnswer : Answer → Type 0
IsAnswer (answers.Value v) = IsStorable (value_of v.instance)
IsAnswer (answers.Wrong m guard) = IsFaultMessage m
IsAnswer (answers.Named n) = ⊥
IsAnswer a = ⊤

abbrev pub AreAnswers : List Answer → Type 0
AreAnswers = All IsAnswer

-- values that may be stored
abbrev pub AreSound : List Instance → Type 0
AreSound = All (λ i. IsStorable (value_of i))

-- a fault with a message
abbrev pub IsFault : Answer → Type 0
IsFault (answers.Wrong m guard) = IsFaultMessage m
IsFault a = ⊥

abbrev pub IsFaultWith : Guard → Answer → Type 0
IsFaultWith guard (answers.Wrong m g) = IsFaultMessage m × (g ≡ guard)
IsFaultWith guard a = ⊥

abbrev pub guard_for : Bool → Guard
guard_for true = guards.Guarded
guard_for false = guards.Never

-- a fault of numbers, or one of types
abbrev pub IsFaultOf : Bool → Answer → Type 0
IsFaultOf of_numbers = IsFaultWith (guard_for of_numbers)

-- what has no constant integers is skipped because of this need
abbrev pub IsSkippedFor : Need → Answer → Type 0
IsSkippedFor need (answers.Skipped s) = (s.need ≡ need) × (s.part ≡ parts.Expression)
IsSkippedFor need a = ⊥

-- the same, or a fault in its place
abbrev pub IsSkippedOr : Need → Answer → Type 0
IsSkippedOr need (answers.Skipped s) = (s.need ≡ need) × (s.part ≡ parts.Expression)
IsSkippedOr need (answers.Wrong m guard) = IsFaultMessage m
IsSkippedOr need a = ⊥

-- a value of which this holds, or a fault in its place
abbrev pub IsValueWith : (Val → Type 0) → Answer → Type 0
IsValueWith P (answers.Value v) = P (value_of v.instance)
IsValueWith P (answers.Wrong m guard) = IsFaultMessage m
IsValueWith P a = ⊥

-- the value that was made, or a fault where none was
abbrev pub IsMade : Option Val → Answer → Type 0
IsMade (Some v) answer = value_in answer ≡ Some v
IsMade None answer = IsFault answer

-- what an answer that is no value leaves where a value belongs: a type is a fault there, a variable is no constant, and
-- all else stays
abbrev pub IsUnready : Answer → Answer → Type 0
IsUnready (answers.Variable v) answer = IsSkippedFor needs.Variable answer
IsUnready (answers.Type t) answer = IsFault answer
IsUnready (answers.Bitcast t) answer = IsFault answer
IsUnready a answer = answer ≡ a

-- what an answer that is no type leaves where a type belongs
abbrev pub IsNoType : Answer → Answer → Type 0
IsNoType (answers.Value v) answer = IsFault answer
IsNoType (answers.Bitcast t) answer = IsFault answer
IsNoType (answers.Variable v) answer = IsFault answer
IsNoType a answer = answer ≡ a

-- what a declaration has, a value that may be stored
abbrev pub IsSoundOutcome : Outcome → Type 0
IsSoundOutcome (outcomes.Value i) = IsStorable (value_of i)
IsSoundOutcome o = ⊤

-- what the declaration of a number was found to be
abbrev pub meaning_at : List Answer → ℕ → Answer
meaning_at meanings number = unwrap_or (slice_get meanings number) answers.Faulty

-- what a declaration of a value has, of what it was found to be
abbrev pub outcome_in : Answer → Outcome
outcome_in (answers.Value v) = outcomes.Value v.instance
outcome_in (answers.Skipped s) = outcomes.Skipped s
outcome_in a = outcomes.Faulty
