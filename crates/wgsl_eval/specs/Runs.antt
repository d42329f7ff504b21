-- What the steps of an expression give one after the other (WGSL: expressions).
use Rattle.std.specs.Prelude.{◌≡◌, List, [], ◌∷◌, ◌++◌}
use Rattle.wgsl_source.specs.Readings.{steps_in}
use Rattle.wgsl_source.specs.declared.expression.Span.{Span}
use Rattle.wgsl_source.specs.declared.expression.Step.{Step}
use Rattle.wgsl_eval.specs.Evaluators.{Setting}
use Rattle.wgsl_eval.specs.Given.{IsGiven, rest_of, top}
use Rattle.wgsl_eval.specs.declared.answer.Answer.{Answer}

-- these answers are there behind the steps; each step gives one for those that it takes away
abbrev pub IsRun : Setting → List Step → List Answer → List Answer → Type 0
IsRun s [] before after = after ≡ before
IsRun s (step ∷ ss) before after =
    (a : Answer) × IsGiven s step before a × IsRun s ss (rest_of step before ++ a ∷ []) after

-- the last answer behind the steps of the span
pub record IsFound (s : Setting) (span : Span) (answer : Answer) : Type 0 where
  pub after : List Answer
  pub run : IsRun s (steps_in s.source span) [] after
  pub last : answer ≡ top after
