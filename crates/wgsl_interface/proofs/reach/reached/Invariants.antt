use Rattle.std.proofs.Common.{◌<◌, ◌+◌, not, length}
use Rattle.std.specs.Prelude.{count_by, map}
use Rattle.std.specs.Vec.{vec_items}
use Rattle.wgsl_interface.specs.Marks.{IsMarked}
use Rattle.wgsl_interface.proofs.Searches.{Searches}
use Rattle.wgsl_interface.proofs.reach.reached.Given as goal

abbrev pub invariant-loop-declaration : goal.invariant-loop-declaration
invariant-loop-declaration l = record {
  searches : Searches (map vec_items l.uses) l.from l.search.marks.items l.search.pending.items;
  start : l.from < length l.uses → IsMarked l.search.marks.items l.from;
}

abbrev pub decreases-loop-declaration : goal.decreases-loop-declaration
decreases-loop-declaration l = length l.search.pending.items + count_by not l.search.marks.items
