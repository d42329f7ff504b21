use Rattle.std.proofs.Common.{rules, subst, sym}
use Rattle.wgsl_rules.proofs.lemmas.Converted.{storable-well_formed}
use Rattle.wgsl_rules.specs.Values.{IsWellFormed}
use Rattle.wgsl_values.specs.View.{value_of}
use Rattle.wgsl_values.specs.declared.instance.Instance.{Instance, the_lemmas}
use Rattle.wgsl_values.proofs.Conversions.{item-storable}
use Rattle.wgsl_values.proofs.+convert.Goals as goal

pub lists::convert_values-convert_to-requires : goal.lists::convert_values-convert_to-requires
lists::convert_values-convert_to-requires t c = (
  search (rules, the_lemmas),
  subst (λ (x : Instance). IsWellFormed (value_of x)) (sym c.value-item.is)
      (storable-well_formed _ (item-storable _ _ c.value-item.result c.loop-value-test.true (rw (c.deref-value-items.ensures.value) c.requires))),
)
