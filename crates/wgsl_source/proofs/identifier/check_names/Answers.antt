use Rattle.std.proofs.Common.{All, List, map, subst}
use Rattle.std.proofs.lemmas.Result.{on_ok_weaker}
use Rattle.wgsl_source.specs.Identifiers.{IsNameOrTold}
use Rattle.wgsl_source.specs.Readings.{extent_in}
use Rattle.wgsl_source.specs.declared.declaration.Declaration.{Declaration}
use Rattle.wgsl_source.proofs.IdentifierLemmas.{names_then}
use Rattle.wgsl_source.proofs.identifier.check_names.Goals as goal

pub returns-clause-declarations : goal.returns-clause-declarations
returns-clause-declarations c =
    let text = c.args.cursor.text.now in
    let tokens = map extent_in c.args.cursor.tokens.now in
    let before = c.check_declarations.new.faults.faults.items in
    let after = c.check_members.new.faults.faults.items in
    let P : List Declaration → Type 0 = λ ds. All (λ (d : Declaration). IsNameOrTold text tokens before d.name) ds in
    let told = subst P c.as_slice.ensures.value c.in_ok-check_declarations.ensures.told in
    on_ok_weaker c.check_members.result
    (λ _. names_then (λ (d : Declaration). d.name) text tokens before after c.check_members.ensures.kept c.args.module.now.declarations.items told)
    c.check_members.ensures.told
