use Rattle.std.proofs.Common.{◌-◌, ◌≤◌, length, map}
use Rattle.wgsl_source.specs.Declarations.{IsRead}
use Rattle.wgsl_source.specs.Faults.{KeepsFaults}
use Rattle.wgsl_source.specs.declared.declaration.Declaration.{Declaration}
use Rattle.wgsl_source.proofs.declaration.read_module.Given as goal

abbrev pub invariant-loop-at : goal.invariant-loop-at
invariant-loop-at l = record {
  within : l.at ≤ length l.cursor.tokens.now;
  read :
      IsRead l.cursor l.reader.pieces.items (map (λ (d : Declaration). d.name) l.reader.declarations.items) (length l.reader.asserts.items)
      l.faults.faults.items l.at;
  kept : KeepsFaults l.fn.faults.faults.items l.faults.faults.items;
}

abbrev pub decreases-loop-at : goal.decreases-loop-at
decreases-loop-at l = length l.cursor.tokens.now - l.at
