use Rattle.std.proofs.Common.{sym, ap, ◌∙◌, option_map}
use Rattle.wgsl_rules.specs.Values.{IsWellFormed}
use Rattle.wgsl_rules.specs.View.{type_view}
use Rattle.wgsl_rules.proofs.Lists.{all_in-push, All-push}
use Rattle.wgsl_rules.proofs.generic.convert_all_inner_to.Goals as goal

pub loop-value-preserved : goal.loop-value-preserved
loop-value-preserved g c =
    let view = g.T.Ty.value_of in
    let x = c.value-item.result in
    let y = c.in-Some.converted in
    let t = type_view c.args.ty.now in
    let xs = c.args.values.now in
    let all = c.loop-value.all.items in
    let given = sym c.in_ok-converted.ensures ∙ ap (option_map view) c.in-Some.is in
    let well = c.requires c.loop-value.value-index x c.loop-value-test.true in
    record {
      converted = rw c.in_ok-push.ensures.items (all_in-push g.T.Convert.converted_inner t view xs c.loop-value.value-index x all y c.loop-value-test.true c.loop-value.invariant.converted (rw (← c.value-item.is) given));
      well_formed = rw c.in_ok-push.ensures.items (All-push (λ x. IsWellFormed (view x)) all y c.loop-value.invariant.well_formed (g.met.T.Convert.inner_gives_well_formed x (view y) t (rw c.value-item.is well) given));
    }
