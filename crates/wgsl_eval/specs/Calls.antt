-- What template lists and calls give (WGSL: template lists; function call expression).
use Rattle.std.specs.Prelude.{◌≡◌, ◌⊎◌, ℕ, IsTrue, List, [], ◌∷◌, map, Option, Some, None, MatchBool, MatchOption, codes}
use Rattle.std.specs.Result.{result_ok}
use Rattle.wgsl_apply.specs.Literals.{natural_of}
use Rattle.wgsl_functions.specs.Functions.{count_of}
use Rattle.wgsl_functions.specs.Names.{IsNameOf}
use Rattle.wgsl_functions.specs.Parameters.{bitcast_in, of_values_in}
use Rattle.wgsl_functions.specs.declared.builtin.Builtin.{Builtin}
use Rattle.wgsl_functions.specs.declared.parameters.Dialect.{Dialect}
use Rattle.wgsl_rules.specs.Types.{Ty}
use Rattle.wgsl_rules.specs.Values.{Val}
use Rattle.wgsl_rules.specs.View.{type_view}
use Rattle.wgsl_rules.specs.declared.syntax.ShaderStage.{ShaderStage}
use Rattle.wgsl_source.specs.Names.{Names}
use Rattle.wgsl_source.specs.Readings.{first_named}
use Rattle.wgsl_source.specs.declared.names.Generator.{Generator}
use Rattle.wgsl_source.specs.declared.names.Generator.TheVariants as generators
use Rattle.wgsl_source.specs.declared.names.Predeclared.{Predeclared}
use Rattle.wgsl_source.specs.declared.names.Predeclared.TheVariants as named
use Rattle.wgsl_values.specs.View.{value_of}
use Rattle.wgsl_eval.specs.Answers.{AreSound, IsAnswer, IsFault, IsNoType, IsSkippedFor, IsUnready, meaning_at, value_in}
use Rattle.wgsl_eval.specs.Constructors.{IsInferred, MayBe, constructed}
use Rattle.wgsl_eval.specs.Evaluators.{Setting}
use Rattle.wgsl_eval.specs.Lists.{each_of}
use Rattle.wgsl_eval.specs.Messages.{IsFaultMessage}
use Rattle.wgsl_eval.specs.Opaque.{is_opaque}
use Rattle.wgsl_eval.specs.Reasons.{has_floats, need_of}
use Rattle.wgsl_eval.specs.TypeNames.{generated_type, predeclared_type}
use Rattle.wgsl_eval.specs.declared.answer.Answer.{Answer}
use Rattle.wgsl_eval.specs.declared.answer.Answer.TheVariants as answers
use Rattle.wgsl_eval.specs.declared.answer.Need.TheVariants as needs
use Rattle.wgsl_eval.specs.declared.answer.Part.TheVariants as parts
use Rattle.wgsl_eval.specs.declared.call.Arguments.{Arguments}
use Rattle.wgsl_eval.specs.declared.call.Arguments.TheVariants as arguments

-- ---- the values of a call

-- where each answer is a value, these
abbrev pub values_of : List Answer → Option (List Val)
values_of = each_of value_in

-- what the first that is no value leaves where values belong
abbrev pub IsNoValue : List Answer → Answer → Type 0
IsNoValue [] answer = ⊥
IsNoValue (answers.Value v ∷ given) answer = IsNoValue given answer
IsNoValue (a ∷ given) answer = IsUnready a answer

-- these are the values, and may be stored; or what there is in their place
abbrev pub AreValues : List Answer → Arguments → Type 0
AreValues given (arguments.Values is size) = (values_of given ≡ Some (map value_of is.items)) × AreSound is.items
AreValues given (arguments.Other answer) = IsNoValue given answer × IsAnswer answer

-- these values, which may be stored, or a fault in their place
abbrev pub AreConverted : Option (List Val) → Arguments → Type 0
AreConverted vs (arguments.Values is size) = (vs ≡ Some (map value_of is.items)) × AreSound is.items
AreConverted vs (arguments.Other answer) = IsFault answer

-- what is said of the values of the arguments, or what the first that is none leaves
abbrev pub IsForValues : List Answer → (List Val → Answer → Type 0) → Answer → Type 0
IsForValues given P answer = MatchOption (values_of given) (IsNoValue given answer) (λ vs. P vs answer)

-- what this gives for the values of the arguments
abbrev pub IsOfValuesOf : (List Val → Option Val) → List Answer → Answer → Type 0
IsOfValuesOf f given answer = IsForValues given (λ vs. MayBe (f vs)) answer

-- ---- template lists

-- the type of an answer that is one
abbrev pub type_in : Answer → Option Ty
type_in (answers.Type t) = Some (type_view t.ty)
type_in a = None

-- the type, or a fault in its place
abbrev pub IsTypeOr : Ty → Answer → Type 0
IsTypeOr t (answers.Type u) = type_view u.ty ≡ t
IsTypeOr t (answers.Wrong m guard) = IsFaultMessage m
IsTypeOr t answer = ⊥

-- the type of the generator of the inner one, with the count
abbrev pub IsGeneratedOf : Generator → Answer → Option ℕ → Answer → Type 0
IsGeneratedOf g (answers.Type t) count answer = IsTypeOr (generated_type g (type_view t.ty) count) answer
IsGeneratedOf g inner count answer = IsNoType inner answer

-- what a count that is no value leaves: one that is skipped is so as a count
abbrev pub IsNotCounted : Answer → Answer → Type 0
IsNotCounted (answers.Skipped s) answer = answer ≡ answers.Skipped (record s { part = parts.Count })
IsNotCounted count answer = IsUnready count answer

-- an array of as many elements as the count says, or a fault in its place
abbrev pub IsCounted : Answer → Answer → Answer → Type 0
IsCounted inner (answers.Value v) answer =
    MatchOption (natural_of (value_of v.instance)) (IsFault answer) (λ n. IsFault answer ⊎ IsGeneratedOf generators.Array inner (Some n) answer)
IsCounted inner count answer = IsNotCounted count answer

-- what a generator gives for the answers in a list: for one, or of an array for two
abbrev pub IsGenerated : Generator → List Answer → Answer → Type 0
IsGenerated g given answer =
    IsFault answer
    ⊎ (((inner : Answer) × (given ≡ inner ∷ []) × IsGeneratedOf g inner None answer)
    ⊎ ((inner : Answer) × (count : Answer) × (g ≡ generators.Array) × (given ≡ inner ∷ count ∷ []) × IsCounted inner count answer))

abbrev pub IsBitcastOf : List Answer → Answer → Type 0
IsBitcastOf given (answers.Bitcast t) = given ≡ answers.Type t ∷ []
IsBitcastOf given (answers.Wrong m guard) = IsFaultMessage m
IsBitcastOf given answer = ⊥

-- what a name of the language gives with a list: that of a generator, `bitcast`, or a type without constants
abbrev pub IsTemplateOf : List ℕ → List Answer → Answer → Type 0
IsTemplateOf word given answer =
    IsFault answer
    ⊎ (((word ≡ codes "bitcast") × IsBitcastOf given answer)
    ⊎ (((g : Generator) × Names word (named.Generator g) × IsGenerated g given answer)
    ⊎ (IsTrue (is_opaque word) × IsSkippedFor needs.Opaque answer)))

-- a name of a declaration takes none
abbrev pub IsTemplate : Setting → List ℕ → List Answer → Answer → Type 0
IsTemplate s word given answer =
    MatchOption (first_named s.source word) (IsTemplateOf word given answer) (λ number. IsFault answer)

-- ---- calls of answers

-- the bits of one value as a value of the type
abbrev pub bitcast_alone : Dialect → Ty → List Val → Option Val
bitcast_alone d t (v ∷ []) = result_ok (bitcast_in d t v)
bitcast_alone d t vs = None

-- what this gives for values, or needs floats where the type has them
abbrev pub IsOfType : Ty → (List Val → Option Val) → List Val → Answer → Type 0
IsOfType t f vs answer = MatchBool (has_floats t) (IsSkippedFor needs.Float answer) (MayBe (f vs) answer)

-- a type is called for a value of it, and `bitcast` for one with the bits of another
abbrev pub IsCallOf : Dialect → Answer → List Answer → Answer → Type 0
IsCallOf d (answers.Type t) given answer = IsForValues given (IsOfType (type_view t.ty) (constructed (type_view t.ty))) answer
IsCallOf d (answers.Bitcast t) given answer = IsForValues given (IsOfType (type_view t.ty) (bitcast_alone d (type_view t.ty))) answer
IsCallOf d (answers.Value v) given answer = IsFault answer
IsCallOf d callee given answer = answer ≡ callee

-- ---- calls of names

abbrev pub function_of : Dialect → Builtin → ShaderStage → List Val → Option Val
function_of d f stage vs = result_ok (of_values_in d f stage vs)

-- a builtin function of integers gives what it gives for the values; another one is skipped
abbrev pub IsFunctionCall : Setting → Builtin → List Answer → Answer → Type 0
IsFunctionCall s f given answer =
    MatchOption (count_of f) (IsSkippedFor (need_of f) answer) (λ n. IsOfValuesOf (function_of s.dialect f s.stage) given answer)

-- a type that the language names; a name that needs a template list is a fault
abbrev pub IsLanguageType : Option Ty → Answer → Type 0
IsLanguageType o answer = MatchOption o (IsFault answer) (λ t. IsTypeOr t answer)

-- a call of an answer of which this holds
abbrev pub IsSomeCall : Dialect → (Answer → Type 0) → List Answer → Answer → Type 0
IsSomeCall d P given answer = (callee : Answer) × P callee × IsCallOf d callee given answer

-- a type by its name makes values in it, and a generator those in the type that they give
abbrev pub IsTypeCall : Setting → Predeclared → List Answer → Answer → Type 0
IsTypeCall s (named.Generator g) given answer = IsForValues given (IsInferred s.dialect g) answer
IsTypeCall s p given answer = IsSomeCall s.dialect (IsLanguageType (predeclared_type p)) given answer

-- the word names a builtin function, or a type
abbrev pub IsLanguageCall : Setting → List ℕ → List Answer → Answer → Type 0
IsLanguageCall s word given answer =
    IsFault answer
    ⊎ (((f : Builtin) × IsNameOf f word × IsFunctionCall s f given answer)
    ⊎ ((p : Predeclared) × Names word p × IsTypeCall s p given answer))

-- a name of a declaration stands for what that was found to be; what names a variable or what is skipped is skipped,
-- a fault is told once, and what is too large to be copied is one
abbrev pub IsCopy : Answer → Answer → Type 0
IsCopy m (answers.Wrong message guard) = IsFaultMessage message
IsCopy (answers.Value v) (answers.Value w) = value_of w.instance ≡ value_of v.instance
IsCopy (answers.Type t) (answers.Type u) = type_view u.ty ≡ type_view t.ty
IsCopy (answers.Skipped s) answer = IsSkippedFor s.need answer
IsCopy (answers.Variable v) answer = IsSkippedFor needs.Variable answer
IsCopy (answers.Value v) answer = ⊥
IsCopy (answers.Type t) answer = ⊥
IsCopy m answer = answer ≡ answers.Faulty

-- what a declaration of the name was found to be is called, or what the language gives the name
abbrev pub IsCall : Setting → List ℕ → List Answer → Answer → Type 0
IsCall s word given answer =
    MatchOption (first_named s.source word)
    (IsLanguageCall s word given answer)
    (λ number. IsSomeCall s.dialect (IsCopy (meaning_at s.meanings number)) given answer)
