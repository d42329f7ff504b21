use Rattle.std.proofs.Common.{arith, subst, sym, ap, ◌∙◌}
use Rattle.wgsl_rules.specs.Values.{IsStorable, vector}
use Rattle.wgsl_values.specs.View.{vals_view}
use Rattle.wgsl_values.proofs.Rows.{column-storable, column-vector, row_from-past, row-grown, row-kept}
use Rattle.wgsl_values.proofs.lemmas.Views.{vec_view-is}
use Rattle.wgsl_values.proofs.matrix.MatInstance.row.Goals as goal
use Rattle.wgsl_values.proofs.matrix.MatInstance.row.Goals.{in-Some+in_ok-push, in_default}

pub unwrap_vec_ref-requires : goal.unwrap_vec_ref-requires
unwrap_vec_ref-requires c =
    column-vector c.args.self.now c.deref-column-items.result.now c.loop-column.column-index c.column-item.result c.requires c.deref-column-items.ensures.value (omega arith) c.column-item.is

pub literal-requires : goal.literal-requires
literal-requires c =
    let whole = column-storable c.args.self.now c.deref-column-items.result.now c.loop-column.column-index c.column-item.result c.requires c.deref-column-items.ensures.value (omega arith) c.column-item.is in
    subst IsStorable (sym c.unwrap_vec_ref.ensures) whole

pub loop-column-preserved : goal.loop-column-preserved
loop-column-preserved c =
    elim c.match-literal.branch [
      | in-Some+in_ok-push w ↦ rw (w.components-is, w.in_ok-push.ensures.items)
          (row-grown c.args.i c.loop-column.column-index c.deref-column-items.result.now c.loop-column.components.items c.column-item.result c.unwrap_vec_ref.result.now w.in-Some.literal
          (omega arith) c.column-item.is c.unwrap_vec_ref.ensures w.in-Some.ensures ∙ c.loop-column.invariant)
      | in_default w ↦ rw w.components-is
          (row-kept c.args.i c.loop-column.column-index c.deref-column-items.result.now c.loop-column.components.items c.column-item.result c.unwrap_vec_ref.result.now
          (omega arith) c.column-item.is c.unwrap_vec_ref.ensures w.in_default.ensures ∙ c.loop-column.invariant)
    ]

pub returns : goal.returns
returns c =
    rw vec_view-is
    (ap vector (sym (row_from-past c.args.i c.loop-column.column-index c.deref-column-items.result.now (vals_view c.loop-column.components.items) c.loop-column-test.false) ∙ c.loop-column.invariant))
