use Rattle.std.proofs.Common.{◌≡◌, ◌-◌, ◌≤◌, length}
use Rattle.wgsl_apply.specs.Zeros.{copies}
use Rattle.wgsl_values.specs.View.{vals_view, value_of}
use Rattle.wgsl_apply.proofs.make.copies.Given as goal

abbrev pub invariant-loop-alloc : goal.invariant-loop-alloc
invariant-loop-alloc l = record {
  made : vals_view l.values.items ≡ copies (length l.values.items) (value_of l.value);
  few : length l.values.items ≤ l.count;
}

abbrev pub decreases-loop-alloc : goal.decreases-loop-alloc
decreases-loop-alloc l = l.count - length l.values.items
