use Rattle.std.proofs.Common.{◌<◌, ◌*◌, ◌+◌, ◌∙◌, ap, sym, arith, Bor}
use Rattle.wgsl_rules.specs.Paths.{parts}
use Rattle.wgsl_rules.specs.Values.{Vals, count}
use Rattle.wgsl_values.specs.View.{value_of, mat_view}
use Rattle.wgsl_values.specs.declared.instance.Instance.{Instance}
use Rattle.wgsl_layout.specs.Plan.{plan_view}
use Rattle.wgsl_layout.specs.Walk.{put_row}
use Rattle.wgsl_layout.proofs.Writing.{vals-from, from-past, column-next, item-smaller, value-smaller, row-next, has-place, member-next, item-there, item-is}
use Rattle.wgsl_layout.proofs.writer.+write.Goals as goal

pub write_row-write_item-requires : goal.write_row-write_item-requires
write_row-write_item-requires t c =
    let vs = c.args.values.now in
    let v = c.index-values-i.result in
    let here = vals-from vs c.loop-i.i v c.loop-i-test.true c.index-values-i.is in
    let n = row-next _ _ (value_of v) (plan_view c.args.plan.now) c.args.base c.loop-i.i c.args.far c.loop-i.out _ here c.loop-i.invariant.places c.loop-i.invariant.rest in
    let smaller = value-smaller vs c.loop-i.i v c.loop-i-test.true c.index-values-i.is in
    (omega (arith, smaller, c.decreases), n.stands)

pub write_columns-unwrap-column-requires : goal.write_columns-unwrap-column-requires
write_columns-unwrap-column-requires t c =
    let below : c.loop-i.i < count (parts (mat_view c.args.matrix.now)) = omega (arith, c.loop-i-test.true, c.c-i-end.ensures) in
    item-there c.col.result (λ (x : Bor Instance). value_of x.now) c.loop-i.i (parts (mat_view c.args.matrix.now)) c.col.ensures below

pub write_columns-overflow_mul-i : goal.write_columns-overflow_mul-i
write_columns-overflow_mul-i t c =
    let vs = parts (mat_view c.args.matrix.now) in
    let n = column-next c.col.result (λ (x : Bor Instance). value_of x.now) c.unwrap-column.result c.loop-i.i vs (plan_view c.args.plan.now) c.args.base c.args.far c.loop-i.out _ c.col.ensures c.unwrap-column.ensures c.loop-i.invariant.places c.loop-i.invariant.rest in
    omega (arith, n.within)

pub write_columns-overflow_add-base : goal.write_columns-overflow_add-base
write_columns-overflow_add-base t c =
    let vs = parts (mat_view c.args.matrix.now) in
    let n = column-next c.col.result (λ (x : Bor Instance). value_of x.now) c.unwrap-column.result c.loop-i.i vs (plan_view c.args.plan.now) c.args.base c.args.far c.loop-i.out _ c.col.ensures c.unwrap-column.ensures c.loop-i.invariant.places c.loop-i.invariant.rest in
    omega (arith, n.within)

pub write_columns-write_value-requires : goal.write_columns-write_value-requires
write_columns-write_value-requires t c =
    let vs = parts (mat_view c.args.matrix.now) in
    let n = column-next c.col.result (λ (x : Bor Instance). value_of x.now) c.unwrap-column.result c.loop-i.i vs (plan_view c.args.plan.now) c.args.base c.args.far c.loop-i.out _ c.col.ensures c.unwrap-column.ensures c.loop-i.invariant.places c.loop-i.invariant.rest in
    let at = item-is c.col.result (λ (x : Bor Instance). value_of x.now) c.unwrap-column.result c.loop-i.i vs c.col.ensures c.unwrap-column.ensures in
    let smaller = item-smaller c.loop-i.i vs (value_of c.unwrap-column.result.now) at in
    (omega (arith, smaller, c.decreases), n.stands)

pub write_columns-loop-i-preserved : goal.write_columns-loop-i-preserved
write_columns-loop-i-preserved t c =
    let vs = parts (mat_view c.args.matrix.now) in
    let n = column-next c.col.result (λ (x : Bor Instance). value_of x.now) c.unwrap-column.result c.loop-i.i vs (plan_view c.args.plan.now) c.args.base c.args.far c.loop-i.out _ c.col.ensures c.unwrap-column.ensures c.loop-i.invariant.places c.loop-i.invariant.rest in
    let next = n.after c.write_value.new.out c.write_value.auto.out c.write_value.ensures in
    record { places = next.0; rest = next.1 }

pub write_columns-returns : goal.write_columns-returns
write_columns-returns t c =
    let vs = parts (mat_view c.args.matrix.now) in
    let none = from-past c.loop-i.i vs (omega (arith, c.loop-i-test.false, c.c-i-end.ensures)) in
    sym (ap (λ (w : Vals). put_row w c.args.far (plan_view c.args.plan.now) (c.args.base + c.loop-i.i * c.args.far) c.loop-i.out) none) ∙ c.loop-i.invariant.rest

pub write_members-write_value-requires : goal.write_members-write_value-requires
write_members-write_value-requires t c =
    let vs = c.args.members.now in
    let ps = c.args.places.now in
    let v = c.index-members-i.result in
    let there = has-place vs ps c.loop-i.i v _ _ c.loop-i-test.true c.index-members-i.is c.loop-i.invariant.places in
    let n = member-next vs ps c.loop-i.i v c.index-places-i.result c.args.base c.loop-i.out _ c.loop-i-test.true c.index-members-i.is there c.index-places-i.is c.loop-i.invariant.places c.loop-i.invariant.rest in
    let smaller = value-smaller vs c.loop-i.i v c.loop-i-test.true c.index-members-i.is in
    (omega (arith, smaller, c.decreases), n.stands)

pub write_members-loop-i-preserved : goal.write_members-loop-i-preserved
write_members-loop-i-preserved t c =
    let vs = c.args.members.now in
    let ps = c.args.places.now in
    let v = c.index-members-i.result in
    let there = has-place vs ps c.loop-i.i v _ _ c.loop-i-test.true c.index-members-i.is c.loop-i.invariant.places in
    let n = member-next vs ps c.loop-i.i v c.index-places-i.result c.args.base c.loop-i.out _ c.loop-i-test.true c.index-members-i.is there c.index-places-i.is c.loop-i.invariant.places c.loop-i.invariant.rest in
    let next = n.after c.write_value.new.out c.write_value.auto.out c.write_value.ensures in
    record { places = next.0; rest = next.1 }
