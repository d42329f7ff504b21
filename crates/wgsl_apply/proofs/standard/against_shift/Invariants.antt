use Rattle.std.proofs.Common.{◌≡◌, ◌<◌, ℕ, false}
use Rattle.wgsl_apply.specs.Standard.{is_past_width_at}
use Rattle.wgsl_values.specs.View.{value_of}
use Rattle.wgsl_apply.proofs.standard.against_shift.Given as goal

abbrev pub invariant-loop-at : goal.invariant-loop-at
invariant-loop-at l = (k : ℕ) → k < l.at → is_past_width_at (value_of l.left) (value_of l.right) k ≡ false
