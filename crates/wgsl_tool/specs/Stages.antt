-- The words for the stages in which values are needed, and for whose rules hold.
use Rattle.std.specs.Prelude.{ℕ, List, codes}
use Rattle.wgsl_rules.specs.declared.syntax.ShaderStage.{ShaderStage}
use Rattle.wgsl_rules.specs.declared.syntax.ShaderStage.TheVariants as stages
use Rattle.wgsl_functions.specs.declared.parameters.Dialect.{Dialect}
use Rattle.wgsl_functions.specs.declared.parameters.Dialect.TheVariants as dialects

abbrev pub stage_word : ShaderStage → List ℕ
stage_word stages.Const = codes "const"
stage_word stages.Override = codes "override"
stage_word stages.Exec = codes "exec"

abbrev pub dialect_word : Dialect → List ℕ
dialect_word dialects.Wgsl = codes "wgsl"
dialect_word dialects.Crate = codes "crate"
