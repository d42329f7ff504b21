-- What the numbers ask for that a call is given.
use Rattle.std.specs.Prelude.{◌≡◌, ℕ, Bool, ◌%◌, nat_eq, nat_lt, if◌then◌else◌}
use Rattle.wgsl_rules.specs.declared.syntax.ShaderStage.{ShaderStage}
use Rattle.wgsl_rules.specs.declared.syntax.ShaderStage.TheVariants as stages
use Rattle.wgsl_functions.specs.declared.parameters.Dialect.{Dialect}
use Rattle.wgsl_functions.specs.declared.parameters.Dialect.TheVariants as dialects
use Rattle.wgsl_eval.specs.declared.settings.Settings.{Settings}
use Rattle.wgsl_report.specs.declared.format.Format.{Format}
use Rattle.wgsl_report.specs.declared.format.Format.TheVariants as formats

-- the numbers of the header
abbrev pub format_number : Format → ℕ
format_number formats.Table = 0
format_number formats.Bytes = 1
format_number formats.Json = 2
format_number formats.Rust = 3
format_number formats.Bytemuck = 4
format_number formats.C = 5

abbrev pub stage_number : ShaderStage → ℕ
stage_number stages.Const = 0
stage_number stages.Override = 1
stage_number stages.Exec = 2

-- bit 0 is strictness
abbrev pub is_strict : ℕ → Bool
is_strict flags = nat_eq (flags % 2) 1

-- bit 1 is the dialect of the crate
abbrev pub dialect_of : ℕ → Dialect
dialect_of flags = if nat_lt flags 2 then dialects.Wgsl else dialects.Crate

-- whether these settings are asked for by these numbers
pub record AreSettings (stage flags : ℕ) (settings : Settings) : Type 0 where
  pub when : stage_number settings.stage ≡ stage
  pub strict : settings.is_strict ≡ is_strict flags
  pub dialect : settings.dialect ≡ dialect_of flags
