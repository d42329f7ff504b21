use Rattle.std.proofs.Common.{All, map, take}
use Rattle.wgsl_source.specs.Faults.{KeepsFaults}
use Rattle.wgsl_source.specs.Identifiers.{IsNameOrTold}
use Rattle.wgsl_source.specs.Readings.{extent_in}
use Rattle.wgsl_source.specs.declared.declaration.Member.{Member}
use Rattle.wgsl_source.proofs.identifier.check_members.Given as goal

abbrev pub invariant-loop-member : goal.invariant-loop-member
invariant-loop-member l = record {
  kept : KeepsFaults l.fn.faults.faults.items l.faults.faults.items;
  told :
      All (λ (x : Member). IsNameOrTold l.cursor.text.now (map extent_in l.cursor.tokens.now) l.faults.faults.items x.name)
      (take l.member-index l.members);
}
