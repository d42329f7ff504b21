-- Which declarations have values, where a host gives some.
use Rattle.std.proofs.Common.{◌≡◌, ◌∙◌, ◌||◌, ℕ, Bool, true, false, List, Option, is_some, sym, ap, subst}
use Rattle.wgsl_rules.specs.declared.syntax.ShaderStage.{ShaderStage}
use Rattle.wgsl_source.specs.Readings.{Outline, word_at}
use Rattle.wgsl_source.specs.declared.expression.Span.{Span}
use Rattle.wgsl_source.specs.declared.module.Declared.{Declared}
use Rattle.wgsl_source.specs.declared.module.Declared.TheVariants as declareds
use Rattle.wgsl_eval.specs.Evaluation.{has_value, has_value_among, name_at}
use Rattle.wgsl_eval.specs.Overrides.{given_for}
use Rattle.wgsl_eval.specs.declared.given.Given.{Given}

-- an override has a value where one is given for its name, or it has its own
pub value_among : (o : Outline) (given : List Given) (stage : ShaderStage) (number : ℕ) (d : Declared) (ty value : Option Span) (word : List ℕ) (known : Bool)
    → d ≡ declareds.Override ty value → word ≡ word_at o (name_at o number) → known ≡ is_some (given_for given word)
    → (known || has_value stage (declareds.Override ty value)) ≡ has_value_among o given stage number d
value_among o given stage number d ty value word known e w k =
    let own : Bool = has_value stage (declareds.Override ty value) in
    let P : Declared → Type 0 = λ x. (known || own) ≡ has_value_among o given stage number x in
    subst P (sym e) (ap (λ b. b || own) (k ∙ ap (λ name. is_some (given_for given name)) w))
