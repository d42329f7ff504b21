-- What an evaluator leaves as it is while it evaluates an expression.
use Rattle.std.specs.Prelude.{Bool, false, List}
use Rattle.wgsl_rules.specs.declared.syntax.ShaderStage.{ShaderStage}
use Rattle.wgsl_source.specs.Readings.{Outline}
use Rattle.wgsl_eval.specs.declared.answer.Answer.{Answer}
use Rattle.wgsl_eval.specs.declared.evaluator.Evaluator.{Evaluator}
use Rattle.wgsl_eval.specs.declared.given.Given.{Given}
use Rattle.wgsl_eval.specs.declared.message.Message.{Message}
use Rattle.wgsl_functions.specs.declared.parameters.Dialect.{Dialect}
use Rattle.wgsl_functions.specs.declared.parameters.Dialect.TheVariants as dialects

-- the source, the stage, whether what the standard refuses is a fault, the dialect, the values that a host gives, what
-- each declaration was found to stand for, and the faults that are told so far
pub record Setting : Type 0 where
  pub source : Outline
  pub stage : ShaderStage
  pub is_strict : Bool
  pub dialect : Dialect
  pub given : List Given
  pub meanings : List Answer
  pub faults : List Message

abbrev pub setting_of : Evaluator → Setting
setting_of e = record {
  source = e.reading.now;
  stage = e.stage;
  is_strict = e.is_strict;
  dialect = e.dialect;
  given = e.given.now;
  meanings = e.meanings.items;
  faults = e.messages.faults.items;
}

-- whether what WGSL does not have is a fault
abbrev pub is_obeyed : Dialect → Bool → Bool
is_obeyed dialects.Wgsl is_strict = is_strict
is_obeyed dialects.Crate is_strict = false
