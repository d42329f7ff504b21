use Rattle.std.proofs.Common.{All, List, refl, subst}
use Rattle.std.proofs.lemmas.List.{take_all}
use Rattle.std.proofs.lemmas.List.Elements.{All-more}
use Rattle.wgsl_rules.specs.Values.{IsStorable}
use Rattle.wgsl_values.specs.View.{value_of}
use Rattle.wgsl_values.specs.declared.instance.Instance.{Instance}
use Rattle.wgsl_apply.proofs.convert.are_storable.Goals as goal

pub loop-value-preserved : goal.loop-value-preserved
loop-value-preserved c =
    let here = subst (λ (x : Instance). IsStorable (value_of x)) c.value-item.is (c.if-not-is_storable.ensures.0 refl) in
    All-more (λ (x : Instance). IsStorable (value_of x)) c.args.values.now c.loop-value.value-index c.value-item.result c.loop-value-test.true c.loop-value.invariant here

pub returns : goal.returns
returns c = (
  (λ h. subst (λ (vs : List Instance). All (λ (x : Instance). IsStorable (value_of x)) vs) (take_all c.loop-value.value-index c.args.values.now c.loop-value-test.false) c.loop-value.invariant),
  (λ h. refl),
)
