use Rattle.std.proofs.Common.{add-one, ◌∙◌}
use Rattle.wgsl_rules.specs.Paths.{parts}
use Rattle.wgsl_rules.specs.Values.{vector}
use Rattle.wgsl_values.specs.Matrices.{row}
use Rattle.wgsl_values.specs.View.{mat_view}
use Rattle.wgsl_values.specs.declared.instance.Instance.{Vec}
use Rattle.wgsl_values.proofs.Rows.{tabulated-push}
use Rattle.wgsl_values.proofs.lemmas.Views.{value_of-Vec}
use Rattle.wgsl_values.proofs.matrix.MatInstance.transpose.Goals as goal

pub loop-i-preserved : goal.loop-i-preserved
loop-i-preserved c =
    rw (c.in_ok-push.ensures.items, add-one)
    (tabulated-push c.loop-i.columns.items (Vec c.in_ok-row.field-0) c.loop-i.i (λ i. vector (row i (parts (mat_view c.args.self.now)))) c.loop-i.invariant (value_of-Vec _ ∙ c.in_ok-row.ensures))
