use Rattle.std.proofs.Common.{◌≡◌, ◌∙◌, Some, subst, sym, ap}
use Rattle.wgsl_rules.specs.Paths.{parts}
use Rattle.wgsl_rules.specs.Values.{Vals, item}
use Rattle.wgsl_values.specs.View.{value_of}
use Rattle.wgsl_values.specs.declared.instance.Instance.{Instance}
use Rattle.wgsl_values.proofs.lemmas.Views.{item_within}
use Rattle.wgsl_layout.proofs.Sharing.{read-part}
use Rattle.wgsl_layout.proofs.types.Types.part.Goals as goal

pub returns-in-Some : goal.returns-in-Some
returns-in-Some c = λ n t u s h.
    let v = value_of c.in-Of.value.now in
    let x = value_of c.in-Some.part.now in
    let found = c.in-Some.ensures.lookup in
    let there : item c.args.i (parts v) ≡ Some x = subst (λ (vs : Vals). item c.args.i vs ≡ Some x) c.parts.ensures
    (sym (item_within c.parts.result.now c.args.i c.in-Some.part.now found.3.0) ∙ ap (λ (y : Instance). Some (value_of y)) (sym found.1)) in
    read-part c.args.i n t u v x (rw c.in-Of.is at s) there h
