-- What structures and variables are found to be (WGSL: structure types; variable declarations; attributes).
use Rattle.std.specs.Prelude.{◌≡◌, ◌-◌, ◌≤◌, ◌<◌, ◌⊎◌, ℕ, Bool, true, Option, Some, None, MatchOption, List, [], ◌∷◌, ◌++◌, ⊤, length, slice_get, IsSomeAnd}
use Rattle.std.specs.Int.{is_power_of_two}
use Rattle.std.specs.Option.{option_and_then}
use Rattle.wgsl_apply.specs.Literals.{natural_of}
use Rattle.wgsl_rules.specs.Layout.{is_at_least}
use Rattle.wgsl_rules.specs.Size.{size_of}
use Rattle.wgsl_rules.specs.Types.{Ty, struct}
use Rattle.wgsl_rules.specs.Values.{Val}
use Rattle.wgsl_rules.specs.View.{«Field» as Member, fields_of, member_view, type_view}
use Rattle.wgsl_source.specs.Readings.{word_at}
use Rattle.wgsl_source.specs.declared.expression.Span.{Span}
use Rattle.wgsl_source.specs.declared.module.DeclaredVariable.{DeclaredVariable}
use Rattle.wgsl_source.specs.declared.module.Field.{Field}
use Rattle.wgsl_eval.specs.Answers.{IsAnswer, IsFault, IsNoType, IsSkippedFor, value_in}
use Rattle.wgsl_eval.specs.Calls.{IsTypeOr, type_in}
use Rattle.wgsl_eval.specs.Evaluators.{Setting}
use Rattle.wgsl_eval.specs.Lists.{AllFrom}
use Rattle.wgsl_eval.specs.Messages.{fault_in}
use Rattle.wgsl_eval.specs.declared.message.Message.{Message}
use Rattle.wgsl_eval.specs.Reasons.{has_floats}
use Rattle.wgsl_eval.specs.Runs.{IsFound}
use Rattle.wgsl_eval.specs.declared.answer.Answer.{Answer}
use Rattle.wgsl_eval.specs.declared.answer.Answer.TheVariants as answers
use Rattle.wgsl_eval.specs.declared.answer.Need.TheVariants as needs
use Rattle.wgsl_eval.specs.declared.answer.Part.TheVariants as parts
use Rattle.wgsl_eval.specs.declared.attribute.Attribute.{Attribute}
use Rattle.wgsl_eval.specs.declared.attribute.Attribute.TheVariants as attributes
use Rattle.wgsl_eval.specs.declared.attribute.Use.{Use}
use Rattle.wgsl_eval.specs.declared.attribute.Use.TheVariants as uses
use Rattle.wgsl_eval.specs.declared.structure.FoundMember.{FoundMember}
use Rattle.wgsl_eval.specs.declared.structure.FoundMember.TheVariants as founds
use Rattle.wgsl_eval.specs.declared.variable.Variable.{Variable}

-- no value, no type, no `bitcast` and no variable
abbrev pub IsNone : Answer → Type 0
IsNone (answers.Value v) = ⊥
IsNone (answers.Type t) = ⊥
IsNone (answers.Bitcast t) = ⊥
IsNone (answers.Variable v) = ⊥
IsNone a = ⊤

-- the expression stands for the type
abbrev pub IsTypeFound : Setting → Span → Ty → Type 0
IsTypeFound s span t = (a : Answer) × IsFound s span a × (type_in a ≡ Some t)

-- ---- attributes

-- whether a number is valid: a size is at least that of the type, an alignment a power of two
abbrev pub is_valid_for : Use → ℕ → Bool
is_valid_for (uses.Size t) n = is_at_least n (size_of (type_view t.now))
is_valid_for uses.Align n = is_power_of_two n
is_valid_for uses.Binding n = true

-- an attribute that is given has a valid number
abbrev pub IsNumberGiven : Setting → Option Span → (ℕ → Bool) → Option ℕ → Type 0
IsNumberGiven s None valid n = n ≡ None
IsNumberGiven s (Some span) valid n =
    (a : Answer) × IsFound s span a × (option_and_then natural_of (value_in a) ≡ n) × IsSomeAnd n (λ k. valid k ≡ true)

-- what there is in place of the number: what needs floats is skipped as an attribute, or is a fault as all else that is
-- no constant; a fault stays
abbrev pub IsNoNumber : Answer → Answer → Type 0
IsNoNumber (answers.Skipped s) answer =
    IsFault answer ⊎ ((s.need ≡ needs.Float) × (answer ≡ answers.Skipped (record s { part = parts.Attribute })))
IsNoNumber (answers.Value v) answer = IsFault answer
IsNoNumber (answers.Variable v) answer = IsFault answer
IsNoNumber (answers.Type t) answer = IsFault answer
IsNoNumber (answers.Bitcast t) answer = IsFault answer
IsNoNumber a answer = answer ≡ a

abbrev pub IsNotGiven : Setting → Option Span → Answer → Type 0
IsNotGiven s None answer = ⊥
IsNotGiven s (Some span) answer = (a : Answer) × IsFound s span a × IsNoNumber a answer

abbrev pub IsAttribute : Setting → Option Span → (ℕ → Bool) → Attribute → Type 0
IsAttribute s span valid (attributes.Number n) = IsNumberGiven s span valid n
IsAttribute s span valid (attributes.Other a) = IsAnswer a × IsNone a × IsNotGiven s span a

-- the number that a value is, where it is valid
abbrev pub IsNumberOf : Val → (ℕ → Bool) → Attribute → Type 0
IsNumberOf v valid (attributes.Number n) = (natural_of v ≡ n) × IsSomeAnd n (λ k. valid k ≡ true)
IsNumberOf v valid (attributes.Other a) = IsFault a

-- ---- structures

-- a member has its name, its type, and its attributes
pub record IsMember (s : Setting) (f : Field) (m : Member) : Type 0 where
  pub name : m.name ≡ word_at s.source f.name
  pub ty : IsTypeFound s f.ty m.ty
  pub size : IsNumberGiven s f.size (λ n. is_at_least n (size_of m.ty)) m.size
  pub align : IsNumberGiven s f.align is_power_of_two m.align

-- what there is in place of the type that the expression would stand for
abbrev pub IsNotTyped : Setting → Span → Answer → Type 0
IsNotTyped s span answer = (a : Answer) × IsFound s span a × IsNoType a answer

-- why there is no member: its type, or an attribute
abbrev pub IsNoMember : Setting → Field → Answer → Type 0
IsNoMember s f answer = IsNotTyped s f.ty answer ⊎ (IsNotGiven s f.size answer ⊎ IsNotGiven s f.align answer)

abbrev pub IsFoundMember : Setting → Field → FoundMember → Type 0
IsFoundMember s f (founds.Member m of) = IsMember s f (member_view m) × (of.has_float ≡ has_floats (member_view m).ty)
IsFoundMember s f (founds.Other a) = IsAnswer a × IsNone a × IsNoMember s f a

-- the member of a number
abbrev pub IsMemberAt : Setting → ℕ → Member → Type 0
IsMemberAt s number m = IsSomeAnd (slice_get s.source.fields number) (λ f. IsMember s f m)

-- ---- faults of members

-- what the member of a number is found to be
abbrev pub IsFoundNumber : Setting → ℕ → FoundMember → Type 0
IsFoundNumber s number f =
    MatchOption (slice_get s.source.fields number) (f ≡ founds.Other answers.Faulty) (λ field. IsFoundMember s field f)

-- the message of a member that is a fault
abbrev pub fault_of : FoundMember → List Message
fault_of (founds.Member m of) = []
fault_of (founds.Other a) = fault_in a

abbrev pub faults_of : List FoundMember → List Message
faults_of [] = []
faults_of (f ∷ fs) = fault_of f ++ faults_of fs

-- the faults of the members of these numbers, the end one not, in their order
pub record AreFaultsOf (s : Setting) (first end : ℕ) (faults : List Message) : Type 0 where
  pub members : List FoundMember
  pub count : length members ≡ end - first
  pub found : AllFrom (IsFoundNumber s) first members
  pub are : faults ≡ faults_of members

abbrev pub behind_first : List Message → List Message
behind_first [] = []
behind_first (m ∷ ms) = ms

-- those behind the first
abbrev pub AreFaultsBehind : Setting → ℕ → ℕ → List Message → Type 0
AreFaultsBehind s first end others = (faults : List Message) × AreFaultsOf s first end faults × (others ≡ behind_first faults)

-- the structure of these members
abbrev pub IsStructureOf : List ℕ → List Member → Answer → Type 0
IsStructureOf name ms answer = IsTypeOr (struct name (fields_of ms)) answer

-- a member of these numbers, the end one not, is none
abbrev pub IsWithout : Setting → ℕ → ℕ → Answer → Type 0
IsWithout s first end answer =
    (n : ℕ) × (first ≤ n) × (n < end) × IsSomeAnd (slice_get s.source.fields n) (λ f. IsNoMember s f answer)

abbrev pub IsStructure : Setting → ℕ → ℕ → ℕ → Answer → Type 0
IsStructure s name first end (answers.Type t) =
    (ms : List Member) × (type_view t.ty ≡ struct (word_at s.source name) (fields_of ms)) × (length ms ≡ end - first) × AllFrom (IsMemberAt s) first ms
IsStructure s name first end answer = IsNone answer × (IsFault answer ⊎ IsWithout s first end answer)

-- ---- variables

-- the number of a group or a binding; none is known where its expression names what has a fault
abbrev pub IsHostNumber : Setting → Option Span → Option ℕ → Type 0
IsHostNumber s span n = IsNumberGiven s span (λ n. true) n ⊎ ((n ≡ None) × IsNotGiven s span answers.Faulty)

abbrev pub IsBindingNumber : Setting → Option Span → Attribute → Type 0
IsBindingNumber s span (attributes.Number n) = IsHostNumber s span n
IsBindingNumber s span (attributes.Other a) = IsAnswer a × IsNone a × IsNotGiven s span a

-- a variable has its type, its address space and access mode as they are given, and the numbers of its attributes
pub record IsVariableOf (s : Setting) (d : DeclaredVariable) (v : Variable) : Type 0 where
  pub ty : IsSomeAnd d.ty (λ span. IsTypeFound s span (type_view v.ty))
  pub space : v.space ≡ d.space
  pub access : v.access ≡ d.access
  pub immediate : v.is_immediate ≡ d.is_immediate
  pub group : IsHostNumber s d.group v.group
  pub binding : IsHostNumber s d.binding v.binding

-- why there is no variable: it has no type, or its type or an attribute is none
abbrev pub IsNoVariable : Setting → DeclaredVariable → Answer → Type 0
IsNoVariable s d answer =
    MatchOption d.ty
    (IsSkippedFor needs.Variable answer)
    (λ span. IsFault answer ⊎ (IsNotTyped s span answer ⊎ (IsNotGiven s d.group answer ⊎ IsNotGiven s d.binding answer)))

abbrev pub IsVariable : Setting → DeclaredVariable → Answer → Type 0
IsVariable s d (answers.Variable v) = IsVariableOf s d v
IsVariable s d answer = IsNone answer × IsNoVariable s d answer
