-- What waits for the steps of an expression that take it: an answer, or the name of a value of a declaration that is not copied yet.
use Rattle.std.specs.Prelude.{◌≡◌, ◌+◌, ◌*◌, ◌<◌, ◌⊎◌, ℕ, Option, Some, None, List, [], ◌∷◌, ⊤, IsSomeAnd, All}
use Rattle.wgsl_source.specs.declared.expression.Step.{Step}
use Rattle.wgsl_eval.specs.Answers.{IsAnswer, IsFault, IsSoundValue, at_most_largest, meaning_at, value_in}
use Rattle.wgsl_eval.specs.Evaluators.{Setting}
use Rattle.wgsl_eval.specs.Given.{IsGiven, below, last_ones, rest_of, top, without}
use Rattle.wgsl_eval.specs.declared.answer.Answer.{Answer}
use Rattle.wgsl_eval.specs.declared.answer.Answer.TheVariants as answers
use Rattle.wgsl_eval.specs.declared.answer.Value.{Value}

-- the number of the declaration whose value an answer names, if it names one
abbrev pub name_in : Answer → Option ℕ
name_in (answers.Named n) = Some n
name_in a = None

-- an answer has the value of this one, which has one
abbrev pub HasValueOf : Answer → Answer → Type 0
HasValueOf a answer = IsSomeAnd (value_in a) (λ v. value_in answer ≡ Some v)

-- what waits may be taken for this answer: it is that answer, or the answer has the value that is named
abbrev pub Stands : List Answer → Answer → Answer → Type 0
Stands meanings (answers.Named n) answer = HasValueOf (meaning_at meanings n) answer
Stands meanings a answer = answer ≡ a

-- each for its answer
abbrev pub AllStand : List Answer → List Answer → List Answer → Type 0
AllStand meanings [] [] = ⊤
AllStand meanings (w ∷ ws) (a ∷ xs) = Stands meanings w a × AllStand meanings ws xs
AllStand meanings ws xs = ⊥

abbrev pub value_of_answer : Answer → Option Value
value_of_answer (answers.Value v) = Some v
value_of_answer a = None

-- the answer itself, or that of the declaration which is named
abbrev pub answer_of : List Answer → Answer → Answer
answer_of meanings (answers.Named n) = meaning_at meanings n
answer_of meanings a = a

-- an answer whose value may be stored, or the name of such a value
abbrev pub IsWaiting : List Answer → Answer → Type 0
IsWaiting meanings (answers.Named n) = IsSomeAnd (value_of_answer (meaning_at meanings n)) IsSoundValue
IsWaiting meanings a = IsAnswer a

abbrev pub AreWaiting : List Answer → List Answer → Type 0
AreWaiting meanings = All (IsWaiting meanings)

-- the value of which a part is taken
abbrev pub value_at : List Answer → Answer → Option Value
value_at meanings a = value_of_answer (answer_of meanings a)

abbrev pub IsWhole : List Answer → Answer → Type 0
IsWhole meanings a = IsSomeAnd (value_at meanings a) IsSoundValue

-- what has or names a value
abbrev pub HasValue : Answer → Type 0
HasValue (answers.Value v) = ⊤
HasValue (answers.Named n) = ⊤
HasValue a = ⊥

-- ---- what is taken away

-- the last of what waits stands for this answer now, and all before it waits as before
pub record IsKept (meanings : List Answer) (old new : List Answer) : Type 0 where
  pub stands : Stands meanings (top old) (top new)
  pub answer : IsAnswer (top new)
  pub rest : below new ≡ below old

-- answers for which all stood that waited, of which these were the last ones
pub record WereLast (meanings : List Answer) (count : ℕ) (old : List Answer) (ones : List Answer) (front : List Answer) : Type 0 where
  pub answers : List Answer
  pub stood : AllStand meanings old answers
  pub were : last_ones count answers ≡ ones
  pub left : without count answers ≡ front

-- so many of the last ones were taken for these answers
abbrev pub IsTaken : List Answer → ℕ → List Answer → List Answer → List Answer → Type 0
IsTaken meanings count old ones new = (front : List Answer) → AllStand meanings new front → WereLast meanings count old ones front

-- ---- a step

-- answers for which all stood that waited, for which the step gives this one
pub record WasGiven (s : Setting) (step : Step) (old : List Answer) (front : List Answer) (answer : Answer) : Type 0 where
  pub answers : List Answer
  pub stood : AllStand s.meanings old answers
  pub given : IsGiven s step answers answer
  pub rest : rest_of step answers ≡ front

-- whatever answers are left and are there then, the step gives the last of them
abbrev pub IsDone : Setting → Step → List Answer → List Answer → Answer → Type 0
IsDone s step old new waiting =
    (front : List Answer) → AllStand s.meanings new front → (answer : Answer) → Stands s.meanings waiting answer → WasGiven s step old front answer

-- ---- what a name is charged

-- how much work it is to name what a declaration was found to be: as many as a value has parts, and four for each type in a type
abbrev pub work_of : Answer → ℕ
work_of (answers.Value v) = v.size.parts
work_of (answers.Type t) = at_most_largest (t.nodes * 4)
work_of a = 1

-- the work is taken from what is left, or there is a fault where less is left
abbrev pub IsCharged : ℕ → ℕ → ℕ → Answer → Type 0
IsCharged work before after answer = (after + work ≡ before) ⊎ ((before < work) × IsFault answer)
