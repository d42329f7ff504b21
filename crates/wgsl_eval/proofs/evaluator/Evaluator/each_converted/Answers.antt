use Rattle.std.proofs.lemmas.List.{take_all}
use Rattle.wgsl_rules.specs.Converted.{converted}
use Rattle.wgsl_rules.specs.View.{type_view}
use Rattle.wgsl_values.specs.View.{value_of}
use Rattle.wgsl_eval.proofs.ConvertedLists.{each-converted, push-sound}
use Rattle.wgsl_eval.proofs.Each.{each_of-mapped}
use Rattle.wgsl_eval.proofs.evaluator.Evaluator.each_converted.Goals as goal

pub loop-value-preserved : goal.loop-value-preserved
loop-value-preserved c =
    let t = type_view c.args.ty.now in
    let out = c.loop-value.converted.items in
    let o = c.in_ok-element.field-0 in
    record {
      converted = rw c.in_ok-push-in-Some.ensures.items
          (each-converted t c.args.values.now c.loop-value.value-index c.value-item.result c.in-Some.element o out c.requires c.loop-value-test.true
          c.value-item.is c.in_ok-element.ensures.value c.in-Some.is c.loop-value.invariant.converted);
      sound = rw c.in_ok-push-in-Some.ensures.items
          (push-sound out o c.in-Some.element t c.loop-value.invariant.sound c.in_ok-element.ensures.some c.in-Some.is);
    }

pub returns : goal.returns
returns c =
    let all = take_all c.loop-value.value-index c.args.values.now c.loop-value-test.false in (
      each_of-mapped (λ v. converted v (type_view c.args.ty.now)) value_of value_of c.args.values.now c.loop-value.converted.items
          (rw all at c.loop-value.invariant.converted),
      c.loop-value.invariant.sound,
    )
