-- What is handed out of an expression: of a well-formed value, or nothing.
use Rattle.std.specs.Prelude.{ℕ, List, [], ◌≡◌, ◌⊎◌, Some}
use Rattle.wgsl_rules.specs.Text.{type_text}
use Rattle.wgsl_rules.specs.Values.{Val, type_of, IsWellFormed}
use Rattle.wgsl_layout.specs.Buffers.{buffer_of}
use Rattle.wgsl_values.specs.Texts.{text_of_value}
use Rattle.wgsl_values.specs.View.{value_of}
use Rattle.wgsl_values.specs.declared.instance.Instance.{Instance}
use Rattle.wgsl_eval.specs.declared.evaluation.Outcome.TheVariants as outcomes
use Rattle.wgsl_eval.specs.declared.settings.Settings.{Settings}
use Rattle.wgsl_report.specs.Scopes.{IsOutcomeOf}
use Rattle.wgsl_c.specs.Asked.{AreSettings}

-- the value that an expression is in the scope of a source, by the settings of these numbers
abbrev pub IsWorth : List ℕ → List ℕ → ℕ → ℕ → Instance → Type 0
IsWorth source text stage flags v =
    (settings : Settings) × AreSettings stage flags settings × (IsOutcomeOf source text settings (outcomes.Value v) × IsWellFormed (value_of v))

abbrev pub IsTypeText : List ℕ → List ℕ → ℕ → ℕ → List ℕ → Type 0
IsTypeText source text stage flags given =
    (given ≡ []) ⊎ ((v : Instance) × IsWorth source text stage flags v × (given ≡ type_text (type_of (value_of v))))

abbrev pub IsValueText : List ℕ → List ℕ → ℕ → ℕ → List ℕ → Type 0
IsValueText source text stage flags given =
    (given ≡ []) ⊎ ((v : Instance) × IsWorth source text stage flags v × (given ≡ text_of_value (value_of v)))

abbrev pub AreBytes : List ℕ → List ℕ → ℕ → ℕ → List ℕ → Type 0
AreBytes source text stage flags given =
    (given ≡ []) ⊎ ((v : Instance) × IsWorth source text stage flags v × (Some given ≡ buffer_of (value_of v)))
