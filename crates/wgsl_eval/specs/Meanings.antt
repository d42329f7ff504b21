-- What declarations are found to stand for (WGSL: declarations).
use Rattle.std.specs.Prelude.{◌≡◌, ◌≢◌, ◌<◌, ℕ, Bool, true, false, Option, Some, None, IsSomeAnd, MatchBool, MatchOption, List, [], ◌∷◌, length, slice_get, slice_set}
use Rattle.wgsl_rules.specs.Conversion.{concretized}
use Rattle.wgsl_rules.specs.Converted.{converted}
use Rattle.wgsl_rules.specs.Values.{Val, type_of}
use Rattle.wgsl_rules.specs.View.{type_view}
use Rattle.wgsl_rules.specs.declared.syntax.ShaderStage.{ShaderStage}
use Rattle.wgsl_rules.specs.declared.syntax.ShaderStage.TheVariants as stages
use Rattle.wgsl_values.specs.View.{value_of}
use Rattle.wgsl_source.specs.Readings.{Outline, first_named, word_at}
use Rattle.wgsl_source.specs.declared.expression.Span.{Span}
use Rattle.wgsl_source.specs.declared.module.Declared.{Declared}
use Rattle.wgsl_source.specs.declared.module.Declared.TheVariants as declareds
use Rattle.wgsl_scalar.specs.Literals.{literal_of}
use Rattle.wgsl_eval.specs.Answers.{IsFault, IsNoType, IsSkippedFor, IsUnready, IsValueWith, meaning_at}
use Rattle.wgsl_eval.specs.Evaluation.{name_at}
use Rattle.wgsl_eval.specs.Evaluators.{Setting}
use Rattle.wgsl_eval.specs.Given.{IsConverted}
use Rattle.wgsl_eval.specs.Messages.{IsFaultMessage, added, all_added, faults_with}
use Rattle.wgsl_eval.specs.Overrides.{given_for}
use Rattle.wgsl_eval.specs.Runs.{IsFound}
use Rattle.wgsl_eval.specs.Structures.{AreFaultsBehind, AreFaultsOf, IsStructure, IsVariable}
use Rattle.wgsl_eval.specs.declared.answer.Answer.{Answer}
use Rattle.wgsl_eval.specs.declared.answer.Answer.TheVariants as answers
use Rattle.wgsl_eval.specs.declared.answer.Need.TheVariants as needs
use Rattle.wgsl_eval.specs.declared.message.Message.{Message}
use Rattle.wgsl_eval.specs.declared.sized.SizedType.{SizedType}

-- ---- what a declaration is found to be

abbrev pub is_first : ShaderStage → Bool
is_first stages.Const = true
is_first stage = false

-- the value in the type that is given
abbrev pub IsOfType : Val → Answer → Answer → Type 0
IsOfType v (answers.Type t) answer = IsConverted v (type_view t.ty) answer
IsOfType v a answer = IsNoType a answer

abbrev pub IsTypedBy : Setting → Span → Val → Answer → Type 0
IsTypedBy s ty v answer = (t : Answer) × IsFound s ty t × IsOfType v t answer

-- the first answer where the second is a type, and else what that leaves where a type belongs
abbrev pub IsWhereType : Answer → Answer → Answer → Type 0
IsWhereType a (answers.Type t) answer = answer ≡ a
IsWhereType a t answer = IsNoType t answer

-- the answer stays where its type is one
abbrev pub IsBesideType : Setting → Span → Answer → Answer → Type 0
IsBesideType s ty a answer = (t : Answer) × IsFound s ty t × IsWhereType a t answer

-- what is skipped stays so where its type is one
abbrev pub IsTyped : Setting → Option Span → Answer → Answer → Type 0
IsTyped s (Some ty) (answers.Value v) answer = IsTypedBy s ty (value_of v.instance) answer
IsTyped s (Some ty) (answers.Skipped k) answer = IsBesideType s ty (answers.Skipped k) answer
IsTyped s ty a answer = IsUnready a answer

-- the value of a constant, in its type where one is given
abbrev pub IsConstant : Setting → Option Span → Span → Answer → Type 0
IsConstant s ty value answer = (a : Answer) × IsFound s value a × IsTyped s ty a answer

-- a value in the concrete type of its own
abbrev pub IsConcreteValue : Val → Answer → Type 0
IsConcreteValue v (answers.Value w) = converted v (concretized (type_of v)) ≡ Some (value_of w.instance)
IsConcreteValue v answer = IsFault answer

abbrev pub IsConcrete : Answer → Answer → Type 0
IsConcrete (answers.Value v) answer = IsConcreteValue (value_of v.instance) answer
IsConcrete a answer = answer ≡ a

-- the value of an override by itself
abbrev pub IsOwnValue : Setting → Option Span → Span → Answer → Type 0
IsOwnValue s ty value answer = (a : Answer) × IsConstant s ty value a × IsConcrete a answer

-- a fault of its own value, or else none that is known
abbrev pub IsWithheld : Answer → Answer → Type 0
IsWithheld (answers.Wrong m guard) answer = answer ≡ answers.Wrong m guard
IsWithheld answers.Faulty answer = answer ≡ answers.Faulty
IsWithheld a answer = IsSkippedFor needs.Override answer

-- what is skipped for an override
abbrev pub IsUnset : Setting → Span → Answer → Type 0
IsUnset s ty answer = (a : Answer) × IsSkippedFor needs.Override a × IsBesideType s ty a answer

-- an override has its own value, but for the first stage, in which a host may give another; one without a value has a type
abbrev pub IsOverride : Setting → Option Span → Option Span → Answer → Type 0
IsOverride s None None answer = IsFault answer
IsOverride s (Some ty) None answer = IsUnset s ty answer
IsOverride s ty (Some value) answer =
    (a : Answer) × IsOwnValue s ty value a × MatchBool (is_first s.stage) (IsWithheld a answer) (answer ≡ a)

-- ---- overrides that a host gives a value

-- a value in the type of another one
abbrev pub IsInTypeOf : Val → Answer → Answer → Type 0
IsInTypeOf v (answers.Value w) answer = IsValueWith (λ x. converted v (type_of (value_of w.instance)) ≡ Some x) answer
IsInTypeOf v a answer = answer ≡ a

-- what is given is converted to the type of the override: that which is declared, or else that of its own value
abbrev pub IsGivenValue : Setting → Option Span → Option Span → Val → Answer → Type 0
IsGivenValue s (Some ty) value v answer = IsTypedBy s ty v answer
IsGivenValue s None (Some value) v answer = (a : Answer) × IsOwnValue s None value a × IsInTypeOf v a answer
IsGivenValue s None None v answer = IsFault answer

-- an override of this name has the value that is given for it, in each stage, and else its own
abbrev pub IsOverrideNamed : Setting → ℕ → Option Span → Option Span → Answer → Type 0
IsOverrideNamed s name ty value answer =
    MatchOption (given_for s.given (word_at s.source name)) (IsOverride s ty value answer) (λ v. IsGivenValue s ty value (literal_of v) answer)

abbrev pub IsAlias : Setting → Span → Answer → Type 0
IsAlias s ty answer = (a : Answer) × IsFound s ty a × IsNoType a answer

-- what a declaration of this name stands for
abbrev pub IsDeclared : Setting → ℕ → Option Declared → Answer → Type 0
IsDeclared s name (Some (declareds.Const ty value)) answer = IsConstant s ty value answer
IsDeclared s name (Some (declareds.Override ty value)) answer = IsOverrideNamed s name ty value answer
IsDeclared s name (Some (declareds.Alias ty)) answer = IsAlias s ty answer
IsDeclared s name (Some (declareds.Variable v)) answer = IsVariable s v answer
IsDeclared s name (Some declareds.Function) answer = IsSkippedFor needs.Function answer
IsDeclared s name (Some (declareds.Struct first end)) answer = IsStructure s name first end answer
IsDeclared s name None answer = answer ≡ answers.Faulty

-- the faults of a declaration beside the answer: of a structure that has none those of all its members, but for the first
-- where the answer is a fault itself
abbrev pub AreOthers : Setting → Option Declared → Answer → List Message → Type 0
AreOthers s (Some (declareds.Struct first end)) (answers.Wrong m guard) others = AreFaultsBehind s first end others
AreOthers s (Some (declareds.Struct first end)) (answers.Skipped k) others = AreFaultsOf s first end others
AreOthers s (Some (declareds.Struct first end)) answers.Faulty others = AreFaultsOf s first end others
AreOthers s d answer others = others ≡ []

-- a fault is told once: what names the declaration has none
abbrev pub told : Answer → Answer
told (answers.Wrong message guard) = answers.Faulty
told a = a

-- another declaration before this one has its name
abbrev pub IsSecond : Outline → ℕ → Type 0
IsSecond o number = IsSomeAnd (first_named o (word_at o (name_at o number))) (λ first. first ≢ number)

-- the type, or a fault where it is too large
abbrev pub IsLimited : SizedType → Answer → Type 0
IsLimited of (answers.Type t) = t ≡ of
IsLimited of (answers.Wrong message guard) = IsFaultMessage message
IsLimited of answer = ⊥

-- the place of this declaration alone changes
pub record IsPlaced (before : Setting) (number : ℕ) (after : Setting) : Type 0 where
  pub source : after.source ≡ before.source
  pub stage : after.stage ≡ before.stage
  pub is_strict : after.is_strict ≡ before.is_strict
  pub dialect : after.dialect ≡ before.dialect
  pub given : after.given ≡ before.given
  pub count : length after.meanings ≡ length before.meanings
  pub others : (k : ℕ) → k ≢ number → slice_get after.meanings k ≡ slice_get before.meanings k

-- with this meaning in the place of the declaration
abbrev pub with_meaning : Setting → ℕ → Answer → Setting
with_meaning s number m = record s { meanings = slice_set s.meanings number m }

-- with one fault more
abbrev pub with_fault : Setting → Message → Setting
with_fault s m = record s { faults = added s.faults m }

-- with these faults more
abbrev pub with_all : Setting → List Message → Setting
with_all s ms = record s { faults = all_added s.faults ms }

-- with the fault that an answer is, where it is one
abbrev pub with_faults : Setting → Answer → Setting
with_faults s a = record s { faults = faults_with s.faults a }

-- the place of the declaration has what it stands for, and its faults are told, where fewer than 100 are; of two with one
-- name only the first has any
pub record IsFoundAt (before : Setting) (number : ℕ) (after : Setting) : Type 0 where
  pub others : IsPlaced before number after
  pub second : IsSecond before.source number → after ≡ before
  pub first : ¬ IsSecond before.source number
      → (a : Answer) × (others : List Message) × IsDeclared before (name_at before.source number) (slice_get before.source.declared number) a × AreOthers before (slice_get before.source.declared number) a others × (number < length before.meanings → meaning_at after.meanings number ≡ told a) × (after.faults ≡ faults_with (all_added before.faults others) a)

-- the declarations of these numbers have their meanings, one after the other
abbrev pub AreDeclared : Setting → List ℕ → Setting → Type 0
AreDeclared s [] after = after ≡ s
AreDeclared s (n ∷ ns) after = (next : Setting) × IsFoundAt s n next × AreDeclared next ns after
