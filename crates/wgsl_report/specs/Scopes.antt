-- What stands in the scope of a module: its text with a declaration behind it, and how that is read.
use Rattle.std.specs.Prelude.{◌≡◌, ◌-◌, ℕ, List, ◌++◌, Some, All, codes, length, slice_get}
use Rattle.wgsl_source.specs.Blanks.{IsCovered}
use Rattle.wgsl_source.specs.Orders.{IsOrderOf}
use Rattle.wgsl_source.specs.Pieces.{IsPiece, Reach, declarations_in, numbers}
use Rattle.wgsl_source.specs.Readings.{Outline, word_at}
use Rattle.wgsl_eval.specs.Evaluated.{IsEvaluatedWith}
use Rattle.wgsl_eval.specs.declared.evaluation.Evaluated.{Evaluated}
use Rattle.wgsl_eval.specs.declared.evaluation.Evaluation.{Evaluation}
use Rattle.wgsl_eval.specs.declared.evaluation.Outcome.{Outcome}
use Rattle.wgsl_eval.specs.declared.given.Given.{Given}
use Rattle.wgsl_eval.specs.declared.settings.Settings.{Settings}

-- an alias of this name for a type
abbrev pub with_alias : List ℕ → List ℕ → List ℕ → List ℕ
with_alias source name text = source ++ (codes "\nalias " ++ (name ++ (codes " = " ++ (text ++ codes "\n;\n"))))

-- a constant of this name that is an expression
abbrev pub with_constant : List ℕ → List ℕ → List ℕ → List ℕ
with_constant source name text = source ++ (codes "\nconst " ++ (name ++ (codes " = " ++ (text ++ codes "\n;\n"))))

-- the text is read so: its tokens cover it, each declaration is one of the pieces that they make, and each is in the order
pub record IsReadingOf (text : List ℕ) (o : Outline) : Type 0 where
  pub text_is : o.text ≡ text
  pub tokens : IsCovered o.text o.tokens o.faults
  pub whole : Reach 0 o.pieces (length o.tokens)
  pub pieces : All (IsPiece o.text o.tokens o.names o.faults) o.pieces
  pub declarations : declarations_in o.pieces ≡ numbers (length o.declared)
  pub order : IsOrderOf o.order (length o.declared)

-- the last of the values is that of a constant of this name
pub record IsLastValue (outline : Outline) (name : List ℕ) (values : List Evaluated) (outcome : Outcome) : Type 0 where
  pub value : Evaluated
  pub there : slice_get values (length values - 1) ≡ Some value
  pub named : word_at outline value.token ≡ name
  pub outcome_is : value.outcome ≡ outcome

-- what an expression is found to be in the scope of a module: the last value that the module has with the constant behind
-- it; where the module has that name already, it is none
pub record IsOutcomeOf (source text : List ℕ) (settings : Settings) (outcome : Outcome) : Type 0 where
  pub name : List ℕ
  pub outline : Outline
  pub reads : IsReadingOf (with_constant source name text) outline
  pub given : List Given
  pub found : Evaluation
  pub evaluated : IsEvaluatedWith outline given settings found
  pub last : IsLastValue outline name found.values.items outcome
