use Rattle.std.proofs.Common.{All, map, take}
use Rattle.wgsl_source.specs.Faults.{KeepsFaults}
use Rattle.wgsl_source.specs.Identifiers.{IsNameOrTold}
use Rattle.wgsl_source.specs.Readings.{extent_in}
use Rattle.wgsl_source.specs.declared.declaration.Declaration.{Declaration}
use Rattle.wgsl_source.proofs.identifier.check_declarations.Given as goal

abbrev pub invariant-loop-declaration : goal.invariant-loop-declaration
invariant-loop-declaration l = record {
  kept : KeepsFaults l.fn.faults.faults.items l.faults.faults.items;
  told :
      All (λ (x : Declaration). IsNameOrTold l.cursor.text.now (map extent_in l.cursor.tokens.now) l.faults.faults.items x.name)
      (take l.declaration-index l.declarations);
}
