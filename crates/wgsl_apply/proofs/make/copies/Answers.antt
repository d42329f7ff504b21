use Rattle.std.proofs.Common.{arith, length-append}
use Rattle.wgsl_values.specs.View.{value_of}
use Rattle.wgsl_apply.proofs.Parts.{copies-more}
use Rattle.wgsl_apply.proofs.make.copies.Goals as goal

pub loop-alloc-preserved : goal.loop-alloc-preserved
loop-alloc-preserved c = record {
  made = rw c.in_ok-push.ensures.items (copies-more value_of c.loop-alloc.values.items c.in_ok-clone.field-0 (value_of c.args.value.now) c.loop-alloc.invariant.made c.in_ok-clone.ensures);
  few = rw (c.in_ok-push.ensures.items, length-append) (omega arith);
}
