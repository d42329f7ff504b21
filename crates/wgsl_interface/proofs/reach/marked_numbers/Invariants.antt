use Rattle.std.proofs.Common.{ℕ, ◌<◌, ◌↔◌}
use Rattle.std.specs.List.{Contains}
use Rattle.std.specs.List.Sorted.{IsStrictlyIncreasing}
use Rattle.wgsl_interface.specs.Marks.{IsMarked}
use Rattle.wgsl_interface.proofs.reach.marked_numbers.Given as goal

abbrev pub invariant-loop-number : goal.invariant-loop-number
invariant-loop-number l = record {
  marked : (n : ℕ) → Contains l.numbers.items n ↔ ((n < l.number) × IsMarked l.marks n);
  rising : IsStrictlyIncreasing l.numbers.items;
}
