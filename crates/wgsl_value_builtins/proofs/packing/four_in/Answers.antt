use Rattle.std.proofs.Common.{rules, ◌≡◌, ◌∙◌, Some, Ok, sym, subst}
use Rattle.wgsl_rules.specs.Converted.{converted}
use Rattle.wgsl_rules.specs.Types as types
use Rattle.wgsl_rules.specs.Values.{Vals, AllOfType}
use Rattle.wgsl_rules.specs.View.{type_view}
use Rattle.wgsl_value_builtins.proofs.PackedBytes.{four-are, typed-at}
use Rattle.wgsl_values.proofs.lemmas.Views.{count-vals_view as listed-count}
use Rattle.wgsl_value_builtins.specs.Components.{components_of}
use Rattle.wgsl_values.specs.View.{value_of, vals_view}
use Rattle.wgsl_value_builtins.proofs.packing.four_in.Goals as goal

pub four_literals-requires-clause-counted : goal.four_literals-requires-clause-counted
four_literals-requires-clause-counted c =
    let is : converted (value_of c.args.e.now) (types.vec 4 (type_view c.args.scalar)) ≡ Some (value_of c.in-Some.converted) = search rules in
    let parts : components_of (value_of c.in-Some.converted) ≡ Ok (vals_view c.in_ok-components-in-Some.field-0.now) = search rules in
    sym (listed-count c.in_ok-components-in-Some.field-0.now) ∙ (four-are _ _ _ _ c.requires is parts).counted

pub four_literals-requires-clause-literals : goal.four_literals-requires-clause-literals
four_literals-requires-clause-literals c =
    let is : converted (value_of c.args.e.now) (types.vec 4 (type_view c.args.scalar)) ≡ Some (value_of c.in-Some.converted) = search rules in
    let parts : components_of (value_of c.in-Some.converted) ≡ Ok (vals_view c.in_ok-components-in-Some.field-0.now) = search rules in
    (four-are _ _ _ _ c.requires is parts).literals

pub returns-in-Some-clause-typed : goal.returns-in-Some-clause-typed
returns-in-Some-clause-typed c =
    let is : converted (value_of c.args.e.now) (types.vec 4 (type_view c.args.scalar)) ≡ Some (value_of c.in-Some.converted) = search rules in
    let parts : components_of (value_of c.in-Some.converted) ≡ Ok (vals_view c.in_ok-components-in-Some.field-0.now) = search rules in
    typed-at (type_view c.args.scalar) c.four_literals.result (subst (λ (vs : Vals). AllOfType (type_view c.args.scalar) vs) (sym c.four_literals.ensures) (four-are _ _ _ _ c.requires is parts).typed)
