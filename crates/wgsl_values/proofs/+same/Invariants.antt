use Rattle.std.proofs.Common.{◌≡◌, drop, length}
use Rattle.wgsl_values.specs.Same.{same_values}
use Rattle.wgsl_values.specs.View.{vals_view}
use Rattle.wgsl_values.proofs.+same.Given as goal

abbrev pub invariant-lists::same_parts-loop-i : goal.invariant-lists::same_parts-loop-i
invariant-lists::same_parts-loop-i l =
    (length l.a ≡ length l.b) ×
    (same_values (vals_view (drop l.i l.a)) (vals_view (drop l.i l.b)) ≡ same_values (vals_view l.a) (vals_view l.b))
