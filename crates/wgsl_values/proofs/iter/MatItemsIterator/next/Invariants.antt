use Rattle.std.proofs.Common.{◌≡◌, length}
use Rattle.wgsl_values.specs.Iterators.{items_left, mat_items_left}
use Rattle.wgsl_values.proofs.iter.MatItemsIterator.next.Given as goal

abbrev pub invariant-loop-component : goal.invariant-loop-component
invariant-loop-component l = mat_items_left l.self ≡ mat_items_left l.initial.self

abbrev pub decreases-loop-component : goal.decreases-loop-component
decreases-loop-component l = length (items_left l.self.columns)
