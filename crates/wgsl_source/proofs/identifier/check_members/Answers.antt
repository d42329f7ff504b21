use Rattle.std.proofs.Common.{All, List, None, map, subst, arith}
use Rattle.std.proofs.lemmas.List.{take_all}
use Rattle.wgsl_source.specs.Identifiers.{IsNameOrTold}
use Rattle.wgsl_source.specs.Readings.{extent_in}
use Rattle.wgsl_source.specs.declared.declaration.Member.{Member}
use Rattle.wgsl_source.proofs.FaultLemmas.{kept_then}
use Rattle.wgsl_source.proofs.IdentifierLemmas.{one_name_more}
use Rattle.wgsl_source.proofs.identifier.check_members.Goals as goal

pub loop-member-preserved : goal.loop-member-preserved
loop-member-preserved c =
    let d : Member = record { name = 0; ty = record { token = 0; start = 0; end = 0 }; size = None; align = None } in
    let now = c.loop-member.faults.faults.items in
    let new = c.check_name.new.faults.faults.items in
    record {
      kept = kept_then c.args.faults.now.faults.items now new c.loop-member.invariant.kept c.check_name.ensures.kept;
      told = one_name_more (λ (x : Member). x.name) c.args.cursor.text.now (map extent_in c.args.cursor.tokens.now) now new c.args.members.now c.loop-member.member-index d c.check_name.ensures.kept (omega arith) c.loop-member.invariant.told c.in_ok-check_name.ensures.told;
    }

pub returns-clause-told : goal.returns-clause-told
returns-clause-told c =
    let faults = c.loop-member.faults.faults.items in
    let P : List Member → Type 0 = λ xs. All (λ (x : Member). IsNameOrTold c.args.cursor.text.now (map extent_in c.args.cursor.tokens.now) faults x.name) xs in
    subst P (take_all c.loop-member.member-index c.args.members.now c.loop-member-test.false) c.loop-member.invariant.told
