-- Why declarations are faulty: for a fault that is told, for what they name, or for what is wrong in the form of the source.
use Rattle.std.specs.Prelude.{◌≡◌, ◌⊎◌, ℕ, ◌+◌, ◌-◌, ◌<◌, ◌==◌, nat_lt, nat_le, Bool, true, false, ◌&&◌, IsTrue, Option, Some, None, IsSomeAnd, List, [], ◌∷◌, ◌++◌, ⊤, Any, Contains, count_by, flat_map, length, option_to_list, slice_get, slice_range}
use Rattle.std.specs.List.{before_first}
use Rattle.wgsl_source.specs.Readings.{Outline, first_named, steps_in, word_at}
use Rattle.wgsl_source.specs.declared.expression.Callee.TheVariants as callees
use Rattle.wgsl_source.specs.declared.expression.Span.{Span}
use Rattle.wgsl_source.specs.declared.expression.Step.{Step}
use Rattle.wgsl_source.specs.declared.expression.Step.TheVariants as steps
use Rattle.wgsl_source.specs.declared.module.Declared.{Declared}
use Rattle.wgsl_source.specs.declared.module.Declared.TheVariants as declareds
use Rattle.wgsl_source.specs.declared.module.Field.{Field}
use Rattle.wgsl_eval.specs.Answers.{meaning_at}
use Rattle.wgsl_eval.specs.Assertions.{IsAsserted}
use Rattle.wgsl_eval.specs.Evaluation.{name_at}
use Rattle.wgsl_eval.specs.Evaluators.{Setting}
use Rattle.wgsl_eval.specs.Given.{IsRefused, is_placeholder}
use Rattle.wgsl_eval.specs.Meanings.{AreDeclared, IsDeclared, IsSecond, with_fault}
use Rattle.wgsl_eval.specs.Messages.{IsFaultMessage}
use Rattle.wgsl_eval.specs.declared.answer.Answer.{Answer}
use Rattle.wgsl_eval.specs.declared.answer.Answer.TheVariants as answers
use Rattle.wgsl_eval.specs.declared.answer.Guard.{Guard}
use Rattle.wgsl_eval.specs.declared.assertions.Assertion.TheVariants as asserts
use Rattle.wgsl_eval.specs.declared.message.Message.{Message}
use Rattle.wgsl_eval.specs.declared.message.Severity.{Severity}
use Rattle.wgsl_eval.specs.declared.message.Severity.TheVariants as severities

-- ---- what is faulty

-- no value, no type and no variable, and nothing that is skipped
abbrev pub IsFaulty : Answer → Type 0
IsFaulty (answers.Value v) = ⊥
IsFaulty (answers.Type t) = ⊥
IsFaulty (answers.Variable v) = ⊥
IsFaulty (answers.Skipped s) = ⊥
IsFaulty a = ⊤

-- the declaration of the number was found to be so
abbrev pub IsFaultyAt : Setting → ℕ → Type 0
IsFaultyAt s number = IsFaulty (meaning_at s.meanings number)

-- ---- why an expression is

-- how many answers a step takes
abbrev pub taken_by : Step → ℕ
taken_by (steps.Name token) = 0
taken_by (steps.Number token) = 0
taken_by (steps.Unary op token) = 1
taken_by (steps.Binary op token) = 2
taken_by (steps.Template token n) = n
taken_by (steps.Call token callees.Name n) = n
taken_by (steps.Call token callees.Answer n) = n + 1
taken_by (steps.Member token) = 1
taken_by (steps.Index token) = 2

-- each step finds the answers that it takes, where there are so many before the first, and one is left behind the last
abbrev pub find_theirs : ℕ → List Step → Bool
find_theirs count [] = nat_lt 0 count
find_theirs count (step ∷ ss) = nat_le (taken_by step) count && find_theirs (count - taken_by step + 1) ss

-- the reader left all steps of an expression
abbrev pub IsWhole : Outline → Span → Type 0
IsWhole o span = IsTrue (find_theirs 0 (steps_in o span))

-- the word names a declaration of which P holds
abbrev pub NamesOne : Outline → (ℕ → Type 0) → List ℕ → Type 0
NamesOne o P word = IsSomeAnd (first_named o word) P

-- nothing has the name, for which a preprocessor has to put a text
abbrev pub IsUnfilled : Outline → List ℕ → Type 0
IsUnfilled o word = (first_named o word ≡ None) × IsTrue (is_placeholder word)

-- a step makes an expression faulty without a fault of its own, where the declarations are faulty of which P holds: it
-- names one of them, or a placeholder, or its operator is refused by the grammar
abbrev pub IsToBlame : Outline → (ℕ → Type 0) → Step → Type 0
IsToBlame o P (steps.Name token) = NamesOne o P (word_at o token) ⊎ IsUnfilled o (word_at o token)
IsToBlame o P (steps.Call token callees.Name n) = NamesOne o P (word_at o token)
IsToBlame o P (steps.Unary op token) = IsRefused o token
IsToBlame o P (steps.Binary op token) = IsRefused o token
IsToBlame o P step = ⊥

-- one of its steps makes the expression faulty, or the reader did not leave them all
abbrev pub IsBlamed : Outline → (ℕ → Type 0) → Span → Type 0
IsBlamed o P span = (¬ IsWhole o span) ⊎ Any (IsToBlame o P) (steps_in o span)

-- ---- why a declaration is

-- the expressions of a member: its type and its attributes
abbrev pub spans_of_field : Field → List Span
spans_of_field f = f.ty ∷ (option_to_list f.size ++ option_to_list f.align)

-- the expressions that a declaration is made of
abbrev pub spans_of : Outline → Option Declared → List Span
spans_of o (Some (declareds.Const ty value)) = option_to_list ty ++ value ∷ []
spans_of o (Some (declareds.Override ty value)) = option_to_list ty ++ option_to_list value
spans_of o (Some (declareds.Alias ty)) = ty ∷ []
spans_of o (Some (declareds.Variable v)) = option_to_list v.ty ++ (option_to_list v.group ++ option_to_list v.binding)
spans_of o (Some (declareds.Struct first end)) = flat_map spans_of_field (slice_range o.fields first end)
spans_of o d = []

-- the declarations that have their meanings before that of the number
abbrev pub before_in : Outline → ℕ → List ℕ
before_in o number = before_first (λ n. n == number) o.order

-- P holds of the declaration, if it has its meaning before that of the number; where declarations name each other in a
-- circle, one does not
abbrev pub IfBefore : Outline → ℕ → (ℕ → Type 0) → ℕ → Type 0
IfBefore o number P k = Contains (before_in o number) k → P k

-- what the declaration of the number is found to be, where those before it have their meanings, is this fault
pub record IsOwnFault (start : Setting) (number : ℕ) (m : Message) : Type 0 where
  pub fault : IsFaultMessage m
  pub before : Setting
  pub declared : AreDeclared start (before_in start.source number) before
  pub guard : Guard
  pub found : IsDeclared before (name_at start.source number) (slice_get start.source.declared number) (answers.Wrong m guard)

-- whether a message is a fault
abbrev pub is_severe : Severity → Bool
is_severe severities.Fault = true
is_severe severity = false

abbrev pub is_fault : Message → Bool
is_fault m = is_severe m.severity

-- the fault is told, unless as many are as are told of a source
abbrev pub IsToldAmong : List Message → Message → Type 0
IsToldAmong messages m = count_by is_fault messages < 100 → Contains messages m

-- a fault of its own is told
abbrev pub HasOwnFault : Setting → List Message → ℕ → Type 0
HasOwnFault start messages number = (m : Message) × IsOwnFault start number m × IsToldAmong messages m

-- why a declaration is faulty, where those are of which P holds: one before it has its name; it has a fault of its own; or
-- one of its expressions names what is faulty, or has no meaning before it, or has a fault of its form
abbrev pub IsExplained : Setting → (ℕ → Type 0) → List Message → ℕ → Type 0
IsExplained start P messages number =
    IsSecond start.source number
    ⊎ (HasOwnFault start messages number
    ⊎ Any (IsBlamed start.source (IfBefore start.source number P)) (spans_of start.source (slice_get start.source.declared number)))

-- ---- why an assertion is

-- what the assertion is found to be, where all declarations have their meanings, is this fault
pub record IsAssertedFault (after : Setting) (span : Span) (m : Message) : Type 0 where
  pub fault : IsFaultMessage m
  pub faults : List Message
  pub found : IsAsserted (record after { faults = faults }) span asserts.Faulty (with_fault (record after { faults = faults }) m)

-- why an assertion is faulty: its fault is told, or its expression names what is faulty, or has a fault of its form
abbrev pub IsAssertionExplained : Setting → List Message → Span → Type 0
IsAssertionExplained after messages span =
    ((m : Message) × IsAssertedFault after span m × IsToldAmong messages m) ⊎ IsBlamed after.source (IsFaultyAt after) span

-- ---- sources with no such fault

-- no two declarations have one name, and no expression of theirs has a fault of its form, or names what has no meaning
-- before
abbrev pub IsFaultless : Outline → Type 0
IsFaultless o = (number : ℕ) → number < length o.declared
    → ¬ IsSecond o number × ¬ Any (IsBlamed o (λ k. ¬ Contains (before_in o number) k)) (spans_of o (slice_get o.declared number))
