-- Laws of declarations, values and assertions that are faulty.
use Rattle.std.specs.Prelude.{◌≡◌, ℕ, Any, Contains, IsSomeAnd, List, Some, length, slice_get}
use Rattle.wgsl_source.specs.Orders.{IsOrderOf}
use Rattle.wgsl_source.specs.Readings.{Outline}
use Rattle.wgsl_source.specs.declared.expression.Span.{Span}
use Rattle.wgsl_eval.specs.Evaluated.{AreDeclarationsWith, IsEvaluatedWith, setting_with}
use Rattle.wgsl_eval.specs.Evaluation.{name_at}
use Rattle.wgsl_eval.specs.Faulty.{IsAssertionExplained, IsExplained, IsFaultyAt, IsFaultless}
use Rattle.wgsl_eval.specs.Messages.{IsFaultMessage}
use Rattle.wgsl_eval.specs.declared.assertions.Assertion.TheVariants as asserts
use Rattle.wgsl_eval.specs.declared.declarations.Declarations.{Declarations}
use Rattle.wgsl_eval.specs.declared.declarations.ItemKind.TheVariants as items
use Rattle.wgsl_eval.specs.declared.evaluation.Evaluated.{Evaluated}
use Rattle.wgsl_eval.specs.declared.evaluation.Evaluation.{Evaluation}
use Rattle.wgsl_eval.specs.declared.evaluation.Outcome.TheVariants as outcomes
use Rattle.wgsl_eval.specs.declared.given.Given.{Given}
use Rattle.wgsl_eval.specs.declared.settings.Settings.{Settings}

-- the declaration of the number is told to be faulty
abbrev pub IsFaultyItem : Declarations → ℕ → Type 0
IsFaultyItem d number = IsSomeAnd (slice_get d.items.items number) (λ item. item.kind ≡ items.Faulty)

-- each declaration that is faulty is explained by what is told
abbrev pub FaultyDeclarationsAreExplained : Type 0
FaultyDeclarationsAreExplained = (o : Outline) (given : List Given) (settings : Settings) (d : Declarations)
    → IsOrderOf o.order (length o.declared) → AreDeclarationsWith o given settings d
    → (number : ℕ) → IsFaultyItem d number → IsExplained (setting_with o given settings) (IsFaultyItem d) d.messages.items number

-- each value that is faulty is that of a declaration which is explained by what is told
abbrev pub FaultyValuesAreExplained : Type 0
FaultyValuesAreExplained = (o : Outline) (given : List Given) (settings : Settings) (e : Evaluation)
    → IsOrderOf o.order (length o.declared) → (evaluated : IsEvaluatedWith o given settings e)
    → (v : Evaluated) → Contains e.values.items v → v.outcome ≡ outcomes.Faulty
    → (number : ℕ) × (v.token ≡ name_at o number) × IsExplained (setting_with o given settings) (IsFaultyAt evaluated.last) e.messages.items number

-- each assertion that is faulty is explained by what is told
abbrev pub FaultyAssertionsAreExplained : Type 0
FaultyAssertionsAreExplained = (o : Outline) (given : List Given) (settings : Settings) (e : Evaluation)
    → (evaluated : IsEvaluatedWith o given settings e)
    → (number : ℕ) (span : Span) → slice_get o.asserts number ≡ Some span → slice_get e.asserts.items number ≡ Some asserts.Faulty
    → IsAssertionExplained evaluated.after e.messages.items span

-- where nothing is wrong in the form of a source, and no fault is told, no declaration is faulty
abbrev pub NothingIsFaultyUntold : Type 0
NothingIsFaultyUntold = (o : Outline) (given : List Given) (settings : Settings) (d : Declarations)
    → IsOrderOf o.order (length o.declared) → AreDeclarationsWith o given settings d
    → IsFaultless o → ¬ Any IsFaultMessage d.messages.items → (number : ℕ) → ¬ IsFaultyItem d number
