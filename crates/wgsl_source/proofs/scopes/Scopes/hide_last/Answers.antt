use Rattle.std.proofs.Common.{◌≡◌, ◌⊎◌, ℕ, ◌++◌, [], ◌∷◌, ◌∙◌, refl, ap, Option}
use Rattle.std.specs.Option.{option_to_list}
use Rattle.wgsl_source.specs.Scopes.{IsKnown}
use Rattle.wgsl_source.specs.declared.scopes.Scopes.{Scopes}
use Rattle.wgsl_source.proofs.UseLemmas.{known-popped, weaker}
use Rattle.wgsl_source.proofs.scopes.Scopes.hide_last.Goals as goal

pub returns-in-Some : goal.returns-in-Some
returns-in-Some c =
    let old = c.args.self.now in
    let mid : Scopes = record old { waiting = c.pop.new.self } in
    let k : ℕ = c.in-Some.number in
    let popped : old.waiting.items ≡ mid.waiting.items ++ k ∷ [] =
    c.pop.ensures.items ∙ ap (λ (r : Option ℕ). mid.waiting.items ++ option_to_list r) c.in-Some.is in
    let A : Type 0 = (n : ℕ) → IsKnown c.hide.new.self n → IsKnown mid n ⊎ (n ≡ k) in
    let B : Type 0 = (n : ℕ) → IsKnown c.hide.new.self n → IsKnown old n in
    weaker c.hide.result A B (λ all. λ n known. known-popped old mid k refl popped n (all n known)) c.hide.ensures.hidden
