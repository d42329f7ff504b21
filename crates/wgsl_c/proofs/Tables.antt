-- The records of a type are those that are asked for.
use Rattle.std.proofs.Common.{rules, ◌≡◌, ℕ, List, Option, Some, None, MatchOption, length, subst}
use Rattle.std.specs.Prelude.{⊤}
use Rattle.wgsl_rules.specs.Types.{Ty}
use Rattle.wgsl_nodes.specs.declared.nodes.Node.{Node}
use Rattle.wgsl_eval.specs.declared.settings.Settings.{Settings}
use Rattle.wgsl_report.specs.Records.{IsLayoutOf, IsTypeOf}
use Rattle.wgsl_c.specs.Answers.{IsAnswer, answer_of, left_in}
use Rattle.wgsl_c.specs.Asked.{AreSettings}
use Rattle.wgsl_c.specs.Records.{IsTableOf}
use Rattle.wgsl_c.specs.declared.answer.Answer.{Answer}

pub asked-for : {A : Type 0} (items : A → List Node) (made : Option A) (source text s t : List ℕ) (stage flags : ℕ) (settings : Settings) → AreSettings stage flags settings → s ≡ source → t ≡ text
    → MatchOption made ⊤ (λ n. (ty : Ty) × IsTypeOf s t settings ty × IsLayoutOf ty (items n)) → MatchOption made ⊤ (λ n. IsTableOf source text stage flags (items n))
asked-for items (Some n) source text s t stage flags settings are same_source same_text h =
    let typed = subst (λ (x : List ℕ). IsTypeOf x text settings h.0) same_source (subst (λ (x : List ℕ). IsTypeOf s x settings h.0) same_text h.1) in
    (settings, are, (h.0, typed, h.2))
asked-for items None source text s t stage flags settings are same_source same_text h = tt

pub answered : {X : Type 0} (P : List X → Type 0) (things old new : List X) (faults : ℕ) (answer : Answer) → P things → answer ≡ answer_of faults (length things) (length old) → new ≡ left_in things old
    → IsAnswer P answer old new
answered P things old new faults answer holds is left = search rules
