-- What is told of a source: the values of its declarations.
use Rattle.std.specs.Prelude.{ℕ, Bool, true, false, ◌||◌, List, is_some, length, slice_get, unwrap_or}
use Rattle.wgsl_rules.specs.declared.syntax.ShaderStage.{ShaderStage}
use Rattle.wgsl_rules.specs.declared.syntax.ShaderStage.TheVariants as stages
use Rattle.wgsl_source.specs.Readings.{Outline, word_at}
use Rattle.wgsl_source.specs.declared.module.Declared.{Declared}
use Rattle.wgsl_source.specs.declared.module.Declared.TheVariants as declareds
use Rattle.wgsl_eval.specs.Lists.{told_from}
use Rattle.wgsl_eval.specs.Overrides.{given_for}
use Rattle.wgsl_eval.specs.declared.given.Given.{Given}

-- whether a declaration has a value in a stage: a constant in each, an override in all but the first
abbrev pub has_value : ShaderStage → Declared → Bool
has_value stage (declareds.Const ty value) = true
has_value stages.Const (declareds.Override ty value) = false
has_value stage (declareds.Override ty value) = true
has_value stage d = false

-- the token that names a declaration
abbrev pub name_at : Outline → ℕ → ℕ
name_at o number = unwrap_or (slice_get o.names number) (length o.tokens)

-- the tokens that name those of the declarations that have values, from this number on
abbrev pub value_names : Outline → ShaderStage → ℕ → List Declared → List ℕ
value_names o stage = told_from (λ number. has_value stage) (name_at o)

-- ---- where a host gives values

-- an override has a value where one is given for it, too
abbrev pub has_value_among : Outline → List Given → ShaderStage → ℕ → Declared → Bool
has_value_among o given stage number (declareds.Override ty value) =
    is_some (given_for given (word_at o (name_at o number))) || has_value stage (declareds.Override ty value)
has_value_among o given stage number d = has_value stage d

-- the tokens that name those of the declarations that have values, from this number on
abbrev pub value_names_among : Outline → List Given → ShaderStage → ℕ → List Declared → List ℕ
value_names_among o given stage = told_from (has_value_among o given stage) (name_at o)
