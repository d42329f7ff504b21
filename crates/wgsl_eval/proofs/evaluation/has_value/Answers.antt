use Rattle.std.proofs.Common.{◌≡◌, ◌∙◌, ◌||◌, Bool, true, false, sym, ap}
use Rattle.wgsl_source.specs.Readings.{word_at}
use Rattle.wgsl_source.specs.declared.module.Declared.TheVariants as declareds
use Rattle.wgsl_eval.specs.Evaluation.{has_value}
use Rattle.wgsl_eval.proofs.ValueNames.{value_among}
use Rattle.wgsl_eval.proofs.evaluation.has_value.Goals as goal

pub returns-then-is_given : goal.returns-then-is_given
returns-then-is_given c =
    let own : Bool = has_value c.args.stage (declareds.Override c.in-Override.ty c.in-Override.value) in
    c.if-is_given.true ∙ sym (ap (λ b. b || own) c.if-is_given.true)
    ∙ value_among c.args.reading.now c.args.given.now c.args.stage c.args.number c.args.declared c.in-Override.ty c.in-Override.value c.word.result.now c.is_given.result c.in-Override.is (c.word.ensures ∙ ap (λ n. word_at c.args.reading.now n) c.name.ensures) c.is_given.ensures

pub returns-else-is_given : goal.returns-else-is_given
returns-else-is_given c =
    let own : Bool = has_value c.args.stage (declareds.Override c.in-Override.ty c.in-Override.value) in
    c.is_late.ensures c.in-Override.ty c.in-Override.value ∙ sym (ap (λ b. b || own) c.if-is_given.false)
    ∙ value_among c.args.reading.now c.args.given.now c.args.stage c.args.number c.args.declared c.in-Override.ty c.in-Override.value c.word.result.now c.is_given.result c.in-Override.is (c.word.ensures ∙ ap (λ n. word_at c.args.reading.now n) c.name.ensures) c.is_given.ensures
