use Rattle.std.proofs.Common.{rules, arith, ◌≡◌, ◌∙◌, ◌<◌, ◌++◌, [], ◌∷◌, length, Ok, Err, refl, sym, ap}
use Rattle.std.specs.Prelude.{IsSomeAnd}
use Rattle.wgsl_rules.specs.Refusals.{Outcome}
use Rattle.wgsl_rules.specs.Values.{Val}
use Rattle.wgsl_scalar.specs.Answers.{refusal_of}
use Rattle.wgsl_value_builtins.proofs.SoFar.{HasPicked, AreAt, picked-start, picked-more, picked-refused, picked-all, gives-as}
use Rattle.wgsl_value_builtins.specs.Logical.{one_selected, each_selected}
use Rattle.wgsl_values.specs.View.{value_of, vals_view}
use Rattle.wgsl_value_builtins.proofs.logical.each_selected.Goals as goal

pub loop-i-init : goal.loop-i-init
loop-i-init c = record { count = search rules; room = search rules; so_far = rw c.in_ok-picked.ensures.items (picked-start c.args.bools.now c.args.f.now c.args.t.now) }

pub returns-in_err-component : goal.returns-in_err-component
returns-in_err-component c =
    let within : c.loop-i.i < length c.args.bools.now = c.loop-i-test.true in
    let at : AreAt c.args.bools.now c.args.f.now c.args.t.now c.loop-i.i c.index-bools-i.result c.index-f-i.result c.index-t-i.result =
    record { within = within; first_within = omega (arith, within, c.requires.first); second_within = omega (arith, within, c.requires.second); bool = c.index-bools-i.is; first = c.index-f-i.is; second = c.index-t-i.is } in
    let h : IsSomeAnd (refusal_of c.in_err-component.field-0.0) (λ r. one_selected (value_of c.index-bools-i.result) (value_of c.index-f-i.result) (value_of c.index-t-i.result) ≡ Err r) = c.in_err-component.ensures in
    search (
      rules,
      gives-as (refusal_of c.in_err-component.field-0.0) (one_selected (value_of c.index-bools-i.result) (value_of c.index-f-i.result) (value_of c.index-t-i.result)) (each_selected (vals_view c.args.bools.now) (vals_view c.args.f.now) (vals_view c.args.t.now))
          (λ r e. picked-refused c.args.bools.now c.args.f.now c.args.t.now c.loop-i.i c.index-bools-i.result c.index-f-i.result c.index-t-i.result c.loop-i.picked.items r at c.loop-i.invariant.so_far e) h,
    )

pub loop-i-preserved : goal.loop-i-preserved
loop-i-preserved c =
    let within : c.loop-i.i < length c.args.bools.now = c.loop-i-test.true in
    let at : AreAt c.args.bools.now c.args.f.now c.args.t.now c.loop-i.i c.index-bools-i.result c.index-f-i.result c.index-t-i.result =
    record { within = within; first_within = omega (arith, within, c.requires.first); second_within = omega (arith, within, c.requires.second); bool = c.index-bools-i.is; first = c.index-f-i.is; second = c.index-t-i.is } in
    let copied : value_of c.in_ok-clone.field-0 ≡ value_of c.in_ok-component.component.now = c.in_ok-clone.ensures in
    let chosen : one_selected (value_of c.index-bools-i.result) (value_of c.index-f-i.result) (value_of c.index-t-i.result) ≡ Ok (value_of c.in_ok-component.component.now) = c.in_ok-component.ensures in
    let same : c.push.new.self.items ≡ c.loop-i.picked.items ++ c.in_ok-clone.field-0 ∷ [] = search rules in
    record {
      count = search rules;
      room = search rules;
      so_far = rw same (picked-more c.args.bools.now c.args.f.now c.args.t.now c.loop-i.i c.index-bools-i.result c.index-f-i.result c.index-t-i.result c.in_ok-clone.field-0 c.loop-i.picked.items at c.loop-i.invariant.so_far (chosen ∙ ap (λ (x : Val). Ok x) (sym copied)));
    }

pub returns : goal.returns
returns c = picked-all c.args.bools.now c.args.f.now c.args.t.now c.loop-i.i c.loop-i.picked.items c.loop-i-test.false (omega (arith, c.requires.first, c.loop-i-test.false)) (omega (arith, c.requires.second, c.loop-i-test.false)) c.loop-i.invariant.so_far
