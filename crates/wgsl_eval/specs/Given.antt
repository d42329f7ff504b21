-- What each step of an expression gives for the answers before it (WGSL: expressions).
use Rattle.std.specs.Prelude.{◌≡◌, ◌-◌, ℕ, nat_eq, zero, suc, Bool, true, false, ◌&&◌, IsTrue, Option, Some, None, List, [], ◌∷◌, ◌++◌, MatchBool, MatchOption, MatchResult, length, take, slice_get, unwrap_or, codes, Contains, if◌then◌else◌}
use Rattle.std.specs.List.{starts_with}
use Rattle.std.specs.Str.{bytes_eq}
use Rattle.wgsl_rules.specs.Converted.{converted}
use Rattle.wgsl_rules.specs.Types.{Ty}
use Rattle.wgsl_rules.specs.Values.{Val, truth}
use Rattle.wgsl_rules.specs.View.{type_view}
use Rattle.wgsl_rules.specs.declared.syntax.BinaryOperator.{BinaryOperator}
use Rattle.wgsl_rules.specs.declared.syntax.ShaderStage.{ShaderStage}
use Rattle.wgsl_rules.specs.declared.syntax.BinaryOperator.TheVariants as between
use Rattle.wgsl_rules.specs.declared.syntax.UnaryOperator.{UnaryOperator}
use Rattle.wgsl_scalar.specs.Literals.{literal_of}
use Rattle.wgsl_values.specs.View.{value_of}
use Rattle.wgsl_apply.specs.Calls.{operated, prefixed}
use Rattle.wgsl_apply.specs.Standard.{is_against}
use Rattle.wgsl_source.specs.Names.{Names}
use Rattle.wgsl_source.specs.Numbers.{Means}
use Rattle.wgsl_source.specs.Readings.{Outline, extent_at, first_named, word_at}
use Rattle.wgsl_source.specs.declared.expression.Callee.TheVariants as callees
use Rattle.wgsl_source.specs.declared.expression.Step.{Step}
use Rattle.wgsl_source.specs.declared.expression.Step.TheVariants as steps
use Rattle.wgsl_source.specs.declared.names.Predeclared.{Predeclared}
use Rattle.wgsl_source.specs.declared.literal.Literal.{Literal}
use Rattle.wgsl_source.specs.declared.literal.Literal.TheVariants as literals
use Rattle.wgsl_eval.specs.Answers.{meaning_at, value_in, IsFault, IsFaultOf, IsSkippedFor, IsUnready, IsValueWith}
use Rattle.wgsl_eval.specs.Calls.{IsCall, IsCallOf, IsCopy, IsTemplate}
use Rattle.wgsl_eval.specs.Messages.{IsFaultMessage}
use Rattle.wgsl_eval.specs.Opaque.{is_opaque}
use Rattle.wgsl_eval.specs.Reasons.{has_floats, is_wide}
use Rattle.wgsl_eval.specs.TypeNames.{predeclared_type}
use Rattle.wgsl_eval.specs.Parts.{IsElementOf, IsMemberOf}
use Rattle.wgsl_eval.specs.Evaluators.{Setting, is_obeyed}
use Rattle.wgsl_eval.specs.declared.answer.Answer.{Answer}
use Rattle.wgsl_eval.specs.declared.answer.Answer.TheVariants as answers
use Rattle.wgsl_eval.specs.declared.answer.Guard.TheVariants as guards
use Rattle.wgsl_eval.specs.declared.answer.Need.TheVariants as needs

-- ---- the stack of answers, the last one on top

abbrev pub top : List Answer → Answer
top before = unwrap_or (slice_get before (length before - 1)) answers.Faulty

abbrev pub below : List Answer → List Answer
below before = take (length before - 1) before

-- so many answers taken away, and they in their order
abbrev pub without : ℕ → List Answer → List Answer
without zero before = before
without (suc n) before = without n (below before)

abbrev pub last_ones : ℕ → List Answer → List Answer
last_ones zero before = []
last_ones (suc n) before = last_ones n (below before) ++ top before ∷ []

-- what is left of the answers behind a step
abbrev pub rest_of : Step → List Answer → List Answer
rest_of (steps.Name token) before = before
rest_of (steps.Number token) before = before
rest_of (steps.Unary op token) before = below before
rest_of (steps.Binary op token) before = below (below before)
rest_of (steps.Template token n) before = without n before
rest_of (steps.Call token callees.Name n) before = without n before
rest_of (steps.Call token callees.Answer n) before = below (without n before)
rest_of (steps.Member token) before = below before
rest_of (steps.Index token) before = below (below before)

-- ---- numbers

-- an integer, which is a fault where it has 64 bits and WGSL is to be obeyed
abbrev pub IsOfLiteral : Setting → Literal → Answer → Type 0
IsOfLiteral s (literals.Integer x) answer =
    MatchBool (is_wide x && is_obeyed s.dialect s.is_strict) (IsFault answer) (value_in answer ≡ Some (literal_of x))
IsOfLiteral s literals.Float answer = IsSkippedFor needs.Float answer
IsOfLiteral s literals.Wrong answer = IsFault answer

-- a number is the literal that the text writes
abbrev pub IsOfNumber : Setting → List ℕ → Answer → Type 0
IsOfNumber s text answer = (x : Literal) × Means text x × IsOfLiteral s x answer

-- ---- names

-- the value of a name that the language gives one
abbrev pub language_value : List ℕ → Option Val
language_value name =
    if bytes_eq name (codes "true") then Some (truth true) else
    (if bytes_eq name (codes "false") then Some (truth false) else None)

-- what a preprocessor has to put a text for, which the reader tells
abbrev pub is_placeholder : List ℕ → Bool
is_placeholder name = starts_with nat_eq name (codes "#{")

-- what the language has for a name: a value, a type, or a type without constants
abbrev pub IsLanguageName : List ℕ → Answer → Type 0
IsLanguageName name (answers.Value v) = language_value name ≡ Some (value_of v.instance)
IsLanguageName name (answers.Type t) = (p : Predeclared) × Names name p × (predeclared_type p ≡ Some (type_view t.ty))
IsLanguageName name (answers.Skipped s) = IsTrue (is_opaque name) × IsSkippedFor needs.Opaque (answers.Skipped s)
IsLanguageName name (answers.Wrong m guard) = IsFaultMessage m × (language_value name ≡ None)
IsLanguageName name answers.Faulty = IsTrue (is_placeholder name)
IsLanguageName name answer = ⊥

abbrev pub IsNamed : Setting → List ℕ → Answer → Type 0
IsNamed s name answer =
    MatchOption (first_named s.source name)
    (IsLanguageName name answer)
    (λ number. IsCopy (meaning_at s.meanings number) answer)

-- ---- operators

-- the grammar refuses the operator there
abbrev pub IsRefused : Outline → ℕ → Type 0
IsRefused o token = Contains o.refused (extent_at o token).start

-- an operator that the grammar refuses has no value, and its fault is told by the reader
pub record UnlessRefused (o : Outline) (token : ℕ) (answer : Answer) (given : Type 0) : Type 0 where
  pub refused : IsRefused o token → answer ≡ answers.Faulty
  pub taken : ¬ IsRefused o token → given

-- the value; where the standard refuses it and is to be obeyed, a fault of numbers
abbrev pub IsJudged : Bool → Val → Answer → Type 0
IsJudged is_refused v answer = MatchBool is_refused (IsFaultOf true answer) (value_in answer ≡ Some v)

-- the operator before a value
abbrev pub IsOfValue : UnaryOperator → Val → Answer → Type 0
IsOfValue op v answer = MatchResult (prefixed op v) (λ w. value_in answer ≡ Some w) (λ _. IsFault answer)

abbrev pub IsOfOne : UnaryOperator → Answer → Answer → Type 0
IsOfOne op (answers.Value v) answer = IsOfValue op (value_of v.instance) answer
IsOfOne op operand answer = IsUnready operand answer

-- whether the operator does not evaluate its right operand
abbrev pub is_decided : BinaryOperator → Val → Bool
is_decided between.ShortCircuitAnd (truth b) = if b then false else true
is_decided between.ShortCircuitOr (truth b) = b
is_decided op v = false

-- the operator between two values
abbrev pub IsOfValues : ShaderStage → Bool → BinaryOperator → Val → Val → Answer → Type 0
IsOfValues stage is_strict op v w answer =
    MatchResult (operated op stage v w) (λ x. IsJudged (is_strict && is_against op stage v w) x answer) (λ _. IsFault answer)

-- a fault of numbers on the right is none where the left operand decides
abbrev pub IsOfTwo : Setting → BinaryOperator → Answer → Answer → Answer → Type 0
IsOfTwo s op (answers.Value v) (answers.Value w) answer =
    IsOfValues s.stage s.is_strict op (value_of v.instance) (value_of w.instance) answer
IsOfTwo s op (answers.Value v) (answers.Wrong message guards.Guarded) answer =
    MatchBool (is_decided op (value_of v.instance))
    (value_in answer ≡ Some (value_of v.instance)) (answer ≡ answers.Wrong message guards.Guarded)
IsOfTwo s op (answers.Value v) right answer = IsUnready right answer
IsOfTwo s op left right answer = IsUnready left answer

-- ---- a step

-- what the step gives for the answers before it
abbrev pub IsGiven : Setting → Step → List Answer → Answer → Type 0
IsGiven s (steps.Name token) before answer = IsNamed s (word_at s.source token) answer
IsGiven s (steps.Number token) before answer = IsOfNumber s (word_at s.source token) answer
IsGiven s (steps.Unary op token) before answer =
    UnlessRefused s.source token answer (IsOfOne op (top before) answer)
IsGiven s (steps.Binary op token) before answer =
    UnlessRefused s.source token answer (IsOfTwo s op (top (below before)) (top before) answer)
IsGiven s (steps.Template token n) before answer = IsTemplate s (word_at s.source token) (last_ones n before) answer
IsGiven s (steps.Call token callees.Name n) before answer = IsCall s (word_at s.source token) (last_ones n before) answer
IsGiven s (steps.Call token callees.Answer n) before answer = IsCallOf s.dialect (top (without n before)) (last_ones n before) answer
IsGiven s (steps.Member token) before answer = IsMemberOf (word_at s.source token) (top before) answer
IsGiven s (steps.Index token) before answer = IsElementOf (top (below before)) (top before) answer

-- ---- conversions

-- the value in the type to which it converts by itself; a type of floats has no values here
abbrev pub IsConverted : Val → Ty → Answer → Type 0
IsConverted v t answer =
    MatchBool (has_floats t) (IsSkippedFor needs.Float answer) (IsValueWith (λ w. converted v t ≡ Some w) answer)
