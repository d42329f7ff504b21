use Rattle.std.proofs.Common.{rules}
use Rattle.wgsl_values.specs.View.{reference_of}
use Rattle.wgsl_store.specs.Cells.{part_value}
use Rattle.wgsl_store.proofs.LoadsRead.{next-read, next-gives, next-smaller}
use Rattle.wgsl_store.proofs.loads.load.Goals as goal

pub returns-in_err-part-2-clause-outcome : goal.returns-in_err-part-2-clause-outcome
returns-in_err-part-2-clause-outcome c =
    let refused = next-gives c.args.store.now (reference_of c.args.reference.now) (reference_of c.in-Some.next.now) (part_value c.loop-next.part) c.in_err-part-2.field-0.0
    c.loop-next.invariant.0 c.in-Some.ensures c.in_err-part-2.ensures.outcome in
    search rules

pub loop-next-smaller : goal.loop-next-smaller
loop-next-smaller c =
    next-smaller c.args.store.now (reference_of c.args.reference.now) (reference_of c.in-Some.next.now) (part_value c.loop-next.part) (part_value c.in_ok-part-2.part)
    c.loop-next.invariant.0 c.in-Some.ensures c.in_ok-part-2.ensures.outcome

pub loop-next-preserved : goal.loop-next-preserved
loop-next-preserved c = (
  next-read c.args.store.now (reference_of c.args.reference.now) (reference_of c.in-Some.next.now) (part_value c.loop-next.part) (part_value c.in_ok-part-2.part)
      c.loop-next.invariant.0 c.in-Some.ensures c.in_ok-part-2.ensures.content c.in_ok-part-2.ensures.outcome,
  c.in_ok-part-2.ensures.part,
)
