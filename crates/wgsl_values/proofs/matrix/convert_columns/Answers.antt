use Rattle.std.proofs.Common.{subst, sym}
use Rattle.wgsl_rules.specs.Values.{IsStorable, IsVector}
use Rattle.wgsl_values.specs.View.{value_of}
use Rattle.wgsl_values.specs.declared.instance.Instance.{Instance}
use Rattle.wgsl_values.proofs.Conversions.{item-storable, item-vector}
use Rattle.wgsl_values.proofs.matrix.convert_columns.Goals as goal

pub unwrap_vec_ref-requires : goal.unwrap_vec_ref-requires
unwrap_vec_ref-requires c =
    subst (λ (x : Instance). IsVector (value_of x)) (sym c.column-item.is)
    (item-vector _ _ c.column-item.result c.loop-column-test.true (rw (c.deref-column-items.ensures.value) c.requires.vectors))

pub convert_components-requires : goal.convert_components-requires
convert_components-requires c =
    rw c.unwrap_vec_ref.ensures
    (subst (λ (x : Instance). IsStorable (value_of x)) (sym c.column-item.is)
    (item-storable _ _ c.column-item.result c.loop-column-test.true (rw (c.deref-column-items.ensures.value) c.requires.storable)))
