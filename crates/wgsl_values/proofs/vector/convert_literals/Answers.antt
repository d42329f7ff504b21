use Rattle.std.proofs.Common.{subst, sym}
use Rattle.wgsl_rules.specs.Values.{IsLiteral}
use Rattle.wgsl_values.specs.View.{value_of}
use Rattle.wgsl_values.specs.declared.instance.Instance.{Instance}
use Rattle.wgsl_values.proofs.Conversions.{item-literal}
use Rattle.wgsl_values.proofs.vector.convert_literals.Goals as goal

pub unwrap_literal_ref-requires : goal.unwrap_literal_ref-requires
unwrap_literal_ref-requires c =
    subst (λ (x : Instance). IsLiteral (value_of x)) (sym c.literal-item.is)
    (item-literal _ _ c.literal-item.result c.loop-literal-test.true (rw (c.deref-literal-items.ensures.value) c.requires))
