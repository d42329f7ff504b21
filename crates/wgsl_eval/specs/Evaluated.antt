-- What is told of a source: its declarations with what they are found to be.
use Rattle.std.specs.Prelude.{◌≡◌, ℕ, Bool, Option, Some, List, [], length, replicate, slice_get, string_bytes}
use Rattle.wgsl_rules.specs.declared.syntax.ShaderStage.{ShaderStage}
use Rattle.wgsl_source.specs.Readings.{Outline, extent_at, word_at}
use Rattle.wgsl_source.specs.declared.module.Declared.{Declared}
use Rattle.wgsl_source.specs.declared.module.Declared.TheVariants as declareds
use Rattle.wgsl_eval.specs.Answers.{meaning_at, outcome_in}
use Rattle.wgsl_eval.specs.Evaluation.{has_value_among, name_at}
use Rattle.wgsl_eval.specs.Evaluators.{Setting}
use Rattle.wgsl_eval.specs.Lists.{AllFrom, told_from}
use Rattle.wgsl_eval.specs.Assertions.{AreAsserted}
use Rattle.wgsl_eval.specs.Meanings.{AreDeclared}
use Rattle.wgsl_eval.specs.Messages.{AreTold}
use Rattle.wgsl_eval.specs.declared.answer.Answer.{Answer}
use Rattle.wgsl_eval.specs.declared.answer.Answer.TheVariants as answers
use Rattle.wgsl_eval.specs.declared.declarations.Declarations.{Declarations}
use Rattle.wgsl_eval.specs.declared.declarations.Item.{Item}
use Rattle.wgsl_eval.specs.declared.declarations.ItemKind.{ItemKind}
use Rattle.wgsl_eval.specs.declared.declarations.ItemKind.TheVariants as items
use Rattle.wgsl_eval.specs.declared.evaluation.Evaluated.{Evaluated}
use Rattle.wgsl_eval.specs.declared.evaluation.Evaluation.{Evaluation}
use Rattle.wgsl_eval.specs.declared.given.Given.{Given}
use Rattle.wgsl_functions.specs.declared.parameters.Dialect.TheVariants as dialects
use Rattle.wgsl_eval.specs.declared.settings.Settings.{Settings}

-- nothing is known of the declarations, and nothing is told; a host gives these values
abbrev pub setting_with : Outline → List Given → Settings → Setting
setting_with o given settings = record {
  source = o;
  stage = settings.stage;
  is_strict = settings.is_strict;
  dialect = settings.dialect;
  given = given;
  meanings = replicate (length o.declared) answers.Faulty;
  faults = [];
}

-- a host gives nothing
abbrev pub setting_before : Outline → Settings → Setting
setting_before o settings = setting_with o [] settings

-- the settings of WGSL
abbrev pub of_wgsl : ShaderStage → Bool → Settings
of_wgsl stage is_strict = record { stage = stage; is_strict = is_strict; dialect = dialects.Wgsl }

-- ---- values

-- the name of a declaration, and what it has
abbrev pub evaluated_at : Setting → ℕ → Evaluated
evaluated_at s number = record { token = name_at s.source number; outcome = outcome_in (meaning_at s.meanings number) }

abbrev pub values_of : Setting → ℕ → List Declared → List Evaluated
values_of s = told_from (has_value_among s.source s.given s.stage) (evaluated_at s)

-- the settings behind the declarations, which have their meanings one after the other, as `order` has them, and behind the
-- assertions; the values are those of the declarations, and all faults that were found are told, up to 100
pub record IsEvaluatedWith (o : Outline) (given : List Given) (settings : Settings) (e : Evaluation) : Type 0 where
  pub after : Setting
  pub declared : AreDeclared (setting_with o given settings) o.order after
  pub last : Setting
  pub asserts : AreAsserted after o.asserts e.asserts.items last
  pub values : e.values.items ≡ values_of last 0 o.declared
  pub messages : AreTold last.faults e.messages.items

-- a host gives nothing
abbrev pub IsEvaluated : Outline → Settings → Evaluation → Type 0
IsEvaluated o settings = IsEvaluatedWith o [] settings

-- ---- declarations

-- what is declared, of what the declaration was found to be
abbrev pub kind_in : Option Declared → Answer → ItemKind
kind_in (Some (declareds.Struct first end)) (answers.Type t) = items.Struct t.ty
kind_in d (answers.Type t) = items.Alias t.ty
kind_in d (answers.Value v) = items.Value v.instance
kind_in d (answers.Variable v) = items.Variable v
kind_in d (answers.Skipped s) = items.Skipped s
kind_in d a = items.Faulty

-- the declaration of a number that was found to be this: its name, the bytes of that, and what is declared
pub record IsItem (o : Outline) (meaning : Answer) (number : ℕ) (item : Item) : Type 0 where
  pub name : string_bytes item.name ≡ word_at o (name_at o number)
  pub start : item.start ≡ (extent_at o (name_at o number)).start
  pub end : item.end ≡ (extent_at o (name_at o number)).end
  pub kind : item.kind ≡ kind_in (slice_get o.declared number) meaning

-- the declaration of a number, with its meaning
abbrev pub IsItemAt : Setting → ℕ → Item → Type 0
IsItemAt s number item = IsItem s.source (meaning_at s.meanings number) number item

-- one for each that is declared
abbrev pub AreItems : Setting → List Item → Type 0
AreItems s items = (length items ≡ length s.source.declared) × AllFrom (IsItemAt s) 0 items

-- these are the declarations, which have their meanings one after the other, as `order` has them, and all faults that
-- were found are told, up to 100
pub record AreDeclarationsWith (o : Outline) (given : List Given) (settings : Settings) (d : Declarations) : Type 0 where
  pub after : Setting
  pub declared : AreDeclared (setting_with o given settings) o.order after
  pub items : AreItems after d.items.items
  pub messages : AreTold after.faults d.messages.items

-- a host gives nothing
abbrev pub AreDeclarations : Outline → Settings → Declarations → Type 0
AreDeclarations o settings = AreDeclarationsWith o [] settings
