use Rattle.std.proofs.Common.{◌∙◌, List, ℕ, subst}
use Rattle.wgsl_source.specs.Finders.{HasAdded, HasFoundIn}
use Rattle.wgsl_source.specs.Scopes.{IsKnown}
use Rattle.wgsl_source.specs.Uses.{AreUses}
use Rattle.wgsl_source.specs.declared.expression.Step.{Step}
use Rattle.wgsl_source.specs.declared.scopes.Scopes.{Scopes}
use Rattle.wgsl_source.proofs.UseLemmas.{list-answered, uses-found}
use Rattle.wgsl_source.proofs.module.Reading.uses_of.Goals as goal

pub add_function-requires : goal.add_function-requires
add_function-requires c =
    let added : HasAdded c.new-finder.result c.steps_of.result.now c.add_steps.new.self = c.in_ok-add_steps.ensures in
    record {
      scopes = λ n known. c.new-finder.ensures.scopes n (subst (λ (s : Scopes). IsKnown s n) added.same.scopes known);
      body = added.same.body ∙ c.new-finder.ensures.body;
    }

pub returns : goal.returns
returns c =
    let P : List Step → Type 0 = λ ss. HasAdded c.new-finder.result ss c.add_steps.new.self in
    let found : HasFoundIn c.add_steps.new.self c.args.number c.args.end c.add_function.new.self = c.in_ok-add_function.ensures in
    list-answered c.into_list.result (λ list. list.items) c.add_function.new.self.found.keys (AreUses c.args.self.now c.args.number c.args.end)
    c.into_list.ensures.rising c.into_list.ensures.same
    (λ list same rising. uses-found c.args.self.now c.args.number c.args.end c.new-finder.result c.add_steps.new.self c.add_function.new.self list c.new-finder.ensures.reading
    c.new-finder.ensures.found (subst P c.steps_of.ensures c.in_ok-add_steps.ensures) found same rising)
