use Rattle.std.proofs.Common.{All, List, map, subst, arith}
use Rattle.std.proofs.lemmas.List.{take_all}
use Rattle.wgsl_source.specs.Identifiers.{IsNameOrTold}
use Rattle.wgsl_source.specs.Readings.{extent_in}
use Rattle.wgsl_source.specs.declared.declaration.Declaration.{Declaration}
use Rattle.wgsl_source.specs.declared.declaration.Kind.TheVariants as kinds
use Rattle.wgsl_source.proofs.FaultLemmas.{kept_then}
use Rattle.wgsl_source.proofs.IdentifierLemmas.{one_name_more}
use Rattle.wgsl_source.proofs.identifier.check_declarations.Goals as goal

pub loop-declaration-preserved : goal.loop-declaration-preserved
loop-declaration-preserved c =
    let d : Declaration = record { name = 0; kind = kinds.Struct 0 0; steps = record { token = 0; start = 0; end = 0 } } in
    let now = c.loop-declaration.faults.faults.items in
    let new = c.check_name.new.faults.faults.items in
    record {
      kept = kept_then c.args.faults.now.faults.items now new c.loop-declaration.invariant.kept c.check_name.ensures.kept;
      told = one_name_more (λ (x : Declaration). x.name) c.args.cursor.text.now (map extent_in c.args.cursor.tokens.now) now new c.args.declarations.now c.loop-declaration.declaration-index d c.check_name.ensures.kept (omega arith) c.loop-declaration.invariant.told c.in_ok-check_name.ensures.told;
    }

pub returns-clause-told : goal.returns-clause-told
returns-clause-told c =
    let faults = c.loop-declaration.faults.faults.items in
    let P : List Declaration → Type 0 = λ xs. All (λ (x : Declaration). IsNameOrTold c.args.cursor.text.now (map extent_in c.args.cursor.tokens.now) faults x.name) xs in
    subst P (take_all c.loop-declaration.declaration-index c.args.declarations.now c.loop-declaration-test.false) c.loop-declaration.invariant.told
