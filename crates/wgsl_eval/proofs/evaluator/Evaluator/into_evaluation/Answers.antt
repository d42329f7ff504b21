use Rattle.std.proofs.Common.{◌<◌, ◌∙◌, ap, length, map, arith}
use Rattle.wgsl_source.specs.declared.module.Declared.TheVariants as declareds
use Rattle.wgsl_eval.specs.Evaluated.{evaluated_at}
use Rattle.wgsl_eval.specs.Evaluation.{has_value_among, name_at}
use Rattle.wgsl_eval.specs.Evaluators.{setting_of}
use Rattle.wgsl_eval.specs.Given.{below, top}
use Rattle.wgsl_eval.specs.declared.evaluation.Evaluated.{Evaluated}
use Rattle.wgsl_eval.proofs.Stacks.{below_dropped, top_dropped}
use Rattle.wgsl_eval.proofs.Told.{told_more}
use Rattle.wgsl_eval.proofs.evaluator.Evaluator.into_evaluation.Goals as goal

pub loop-number-preserved : goal.loop-number-preserved
loop-number-preserved c =
    let o = c.args.self.reading.now in
    let stage = c.args.self.stage in
    let s = setting_of c.args.self in
    let i = c.loop-number.number in
    let values = c.loop-number.values.items in
    let after = c.add_value.new.values.items in
    let inside : i < length o.declared = omega arith in
    let has = has_value_among o c.args.self.given.now stage in
    let told = c.is_value-is_value.ensures in
    let meaning = c.popped-meaning.ensures.top ∙ ap top c.loop-number.invariant.left ∙ top_dropped s.meanings i in
    record {
      answers = c.popped-meaning.ensures.left;
      left = c.popped-meaning.ensures.below ∙ ap below c.loop-number.invariant.left ∙ below_dropped s.meanings i;
      sound = c.in_ok-add_value.ensures.sound;
      names = told_more has (name_at o) o.declared i declareds.Function c.is_value-is_value.result (map (λ (v : Evaluated). v.token) values) (map (λ (v : Evaluated). v.token) after) inside
          told (rw c.name.ensures at c.in_ok-add_value.ensures.names) c.loop-number.invariant.names;
      values = told_more has (evaluated_at s) o.declared i declareds.Function c.is_value-is_value.result values after inside
          told (rw (c.name.ensures, meaning) at c.in_ok-add_value.ensures.values) c.loop-number.invariant.values;
    }
