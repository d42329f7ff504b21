use Rattle.std.proofs.Common.{◌≡◌, ◌≢◌, ◌∙◌, length, Ok, sym, ap, subst}
use Rattle.wgsl_rules.specs.Values.{type_of, IsStorable}
use Rattle.wgsl_value_builtins.proofs.ComponentLemmas.{components-are}
use Rattle.wgsl_value_builtins.proofs.LogicalAnswers.{picked-storable}
use Rattle.wgsl_values.proofs.lemmas.Views.{count-vals_view as listed-count}
use Rattle.wgsl_value_builtins.proofs.Picked.{components-unequal, counts-equal}
use Rattle.wgsl_value_builtins.specs.Components.{components_of}
use Rattle.wgsl_values.specs.View.{value_of, vals_view}
use Rattle.wgsl_value_builtins.proofs.logical.components_selected.Goals as goal

pub returns-then-bools-f : goal.returns-then-bools-f
returns-then-bools-f c =
    let first : components_of (value_of c.args.f.now) ≡ Ok (vals_view c.in_ok-f.f.now) = c.in_ok-f.ensures in
    let second : components_of (value_of c.args.t.now) ≡ Ok (vals_view c.in_ok-t.t.now) = c.in_ok-t.ensures in
    let unlike : length c.args.bools.now ≢ length c.in_ok-f.f.now = c.if-bools-f.true in
    components-unequal (vals_view c.args.bools.now) (vals_view c.in_ok-f.f.now) (vals_view c.in_ok-t.t.now) (value_of c.args.f.now) (value_of c.args.t.now) first second
    (λ e. unlike (sym (listed-count c.args.bools.now) ∙ e ∙ listed-count c.in_ok-f.f.now))

pub each_selected-requires-clause-second : goal.each_selected-requires-clause-second
each_selected-requires-clause-second c =
    let first : components_of (value_of c.args.f.now) ≡ Ok (vals_view c.in_ok-f.f.now) = c.in_ok-f.ensures in
    let second : components_of (value_of c.args.t.now) ≡ Ok (vals_view c.in_ok-t.t.now) = c.in_ok-t.ensures in
    let counts = counts-equal (vals_view c.in_ok-f.f.now) (vals_view c.in_ok-t.t.now) (value_of c.args.f.now) (value_of c.args.t.now) first second c.requires.one_type in
    let alike : length c.args.bools.now ≡ length c.in_ok-f.f.now = c.if-bools-f.false in
    sym (listed-count c.in_ok-t.t.now) ∙ sym counts ∙ listed-count c.in_ok-f.f.now ∙ sym alike

pub new-requires : goal.new-requires
new-requires c =
    let first : components_of (value_of c.args.f.now) ≡ Ok (vals_view c.in_ok-f.f.now) = c.in_ok-f.ensures in
    let second : components_of (value_of c.args.t.now) ≡ Ok (vals_view c.in_ok-t.t.now) = c.in_ok-t.ensures in
    let v = components-are (value_of c.args.f.now) (vals_view c.in_ok-f.f.now) first in
    let w = components-are (value_of c.args.t.now) (vals_view c.in_ok-t.t.now) second in
    picked-storable (vals_view c.args.bools.now) (vals_view c.in_ok-f.f.now) (vals_view c.in_ok-t.t.now) (vals_view c.in_ok-each_selected.field-0.items)
    (subst IsStorable v c.requires.first) (subst IsStorable w c.requires.second) (ap type_of (sym v) ∙ c.requires.one_type ∙ ap type_of w) c.in_ok-each_selected.ensures
