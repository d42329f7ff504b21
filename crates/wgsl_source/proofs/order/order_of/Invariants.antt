use Rattle.std.proofs.Common.{◌≡◌, length}
use Rattle.wgsl_source.specs.Faults.{KeepsFaults}
use Rattle.wgsl_source.proofs.order.order_of.Given as goal

abbrev pub invariant-loop : goal.invariant-loop
invariant-loop l =
    (length l.search.places.marks.items ≡ length l.module.declarations.items)
    × KeepsFaults l.fn.faults.faults.items l.faults.faults.items

abbrev pub invariant-loop-declaration : goal.invariant-loop-declaration
invariant-loop-declaration l =
    (length l.search.places.marks.items ≡ length l.module.declarations.items)
    × KeepsFaults l.fn.faults.faults.items l.faults.faults.items
