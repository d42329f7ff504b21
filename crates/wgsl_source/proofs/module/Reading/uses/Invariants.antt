use Rattle.std.proofs.Common.{List, ℕ, map, take}
use Rattle.wgsl_source.specs.Uses.{AreUsesOf, endings}
use Rattle.wgsl_source.proofs.module.Reading.uses.Given as goal

abbrev pub invariant-loop-piece : goal.invariant-loop-piece
invariant-loop-piece l = AreUsesOf l.self (endings (take l.piece-index l.pieces)) (map (λ list. list.items) l.lists.items)
