use Rattle.std.proofs.Common.{◌<◌, ℕ, length, subst}
use Rattle.wgsl_rules.specs.View.{type_view}
use Rattle.wgsl_layout.specs.Plan.{plan_view}
use Rattle.wgsl_layout.proofs.Plans.{view-row}
use Rattle.wgsl_layout.proofs.Reading.{matrix-there}
use Rattle.wgsl_layout.proofs.Copying.{row-start, row-next, matrix-copied}
use Rattle.wgsl_layout.proofs.copier.copy_matrix.Goals as goal

pub loop-i-init : goal.loop-i-init
loop-i-init c =
    let far = c.in-Row.far in
    let t = type_view c.args.component.now in
    let p = plan_view c.in-Row.column.value in
    let from = rw (c.in-Row.is, view-row) at c.requires.from in
    let to = rw (c.in-Row.is, view-row) at c.requires.to in
    record {
      inside = λ i below. (matrix-there 0 c.args.columns c.args.rows far t p c.args.at (length c.args.bytes.now) from).1 i (subst (λ (n : ℕ). i < n) c.from-len.ensures below);
      room = λ i below. (matrix-there 0 c.args.columns c.args.rows far t p c.args.base (length c.args.out.now) to).1 i (subst (λ (n : ℕ). i < n) c.from-len.ensures below);
      rest = row-start c.args.bytes.now c.args.at far c.from-len.result _ _ c.args.base c.args.out.now;
    }

pub loop-i-preserved : goal.loop-i-preserved
loop-i-preserved c = record {
  inside = c.loop-i.invariant.inside;
  room = rw c.copy_vector.auto.out c.loop-i.invariant.room;
  rest = row-next c.args.bytes.now c.args.at c.in-Row.far c.from-len.result _ (plan_view c.in-Row.column.value) c.loop-i.i c.args.base c.loop-i.out c.copy_vector.new.out _ c.loop-i-test.true (rw c.deref.ensures at c.copy_vector.ensures) c.loop-i.invariant.rest;
}

pub returns : goal.returns
returns c =
    let from = rw (c.in-Row.is, view-row) at c.requires.from in
    rw (c.in-Row.is, view-row)
    (matrix-copied c.args.columns c.args.rows c.in-Row.far (type_view c.args.component.now) (plan_view c.in-Row.column.value) c.args.bytes.now c.args.at (length c.args.bytes.now) c.loop-i.i c.from-len.result c.args.base c.args.out.now c.loop-i.out
    from c.from-len.ensures c.loop-i-test.false c.loop-i.invariant.rest)
