use Rattle.std.proofs.Common.{◌≡◌, ◌<◌, ℕ, Some, slice_get, length}
use Rattle.wgsl_source.specs.declared.places.Mark.TheVariants.{Done}
use Rattle.wgsl_source.proofs.places.Places.into_order.Given as goal

abbrev pub invariant-loop-declaration : goal.invariant-loop-declaration
invariant-loop-declaration l =
    (length l.self.marks.items ≡ length l.fn.self.marks.items)
    × ((number : ℕ) → number < l.declaration → slice_get l.self.marks.items number ≡ Some Done)
