use Rattle.std.proofs.Common.{◌≡◌, drop}
use Rattle.wgsl_interface.specs.Marks.{marked, pending_after}
use Rattle.wgsl_interface.proofs.reach.Search.reach_all.Given as goal

abbrev pub invariant-loop-declaration : goal.invariant-loop-declaration
invariant-loop-declaration l = record {
  marks : marked l.self.marks.items (drop l.declaration-index l.declarations) ≡ marked l.initial.self.marks.items l.declarations;
  pending : pending_after l.self.marks.items l.self.pending.items (drop l.declaration-index l.declarations) ≡ pending_after l.initial.self.marks.items l.initial.self.pending.items l.declarations;
}
