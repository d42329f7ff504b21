use Rattle.std.proofs.Common.{◌∙◌, ◌<◌, ℕ, length, subst}
use Rattle.wgsl_rules.specs.View.{type_view}
use Rattle.wgsl_layout.specs.Plan.{plan_view}
use Rattle.wgsl_layout.proofs.Plans.{view-row}
use Rattle.wgsl_layout.proofs.Reading.{row-start, row-step, matrix-there, matrix-made}
use Rattle.wgsl_layout.proofs.reader.read_matrix.Goals as goal

pub loop-i-init : goal.loop-i-init
loop-i-init c =
    let there = rw (c.in-Row.is, view-row) at c.requires in
    record {
      inside = λ i below.
          (matrix-there 0 c.args.columns c.args.rows c.in-Row.far (type_view c.args.component.now) (plan_view c.in-Row.column.value) c.args.base (length c.args.bytes.now) there).1 i (subst (λ (n : ℕ). i < n) c.from-len.ensures below);
      rest = row-start c.in_ok-values.values.items c.args.bytes.now c.args.base c.in-Row.far c.from-len.result _ c.in_ok-values.ensures.items;
    }

pub loop-i-preserved : goal.loop-i-preserved
loop-i-preserved c = record {
  inside = c.loop-i.invariant.inside;
  rest = rw c.in_ok-push.ensures.items (row-step c.loop-i.values.items c.from.result c.args.bytes.now c.args.base c.in-Row.far c.loop-i.i c.from-len.result _ _ c.loop-i-test.true (c.from.ensures ∙ c.in_ok-vector.ensures) c.loop-i.invariant.rest);
}

pub from_cols-requires : goal.from_cols-requires
from_cols-requires c =
    let there = rw (c.in-Row.is, view-row) at c.requires in
    (matrix-made c.loop-i.values.items c.args.columns c.args.rows c.in-Row.far c.loop-i.i c.from-len.result c.args.base _ c.args.bytes.now (type_view c.args.component.now) (plan_view c.in-Row.column.value) there c.from-len.ensures
    c.loop-i-test.false c.loop-i.invariant.rest).storable

pub returns : goal.returns
returns c =
    let there = rw (c.in-Row.is, view-row) at c.requires in
    c.from_cols.ensures
    ∙ (matrix-made c.loop-i.values.items c.args.columns c.args.rows c.in-Row.far c.loop-i.i c.from-len.result c.args.base _ c.args.bytes.now (type_view c.args.component.now) (plan_view c.in-Row.column.value) there c.from-len.ensures
    c.loop-i-test.false c.loop-i.invariant.rest).is
