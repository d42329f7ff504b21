use Rattle.std.proofs.Common.{◌≡◌, ◌∙◌, ap, length, vec_len, arith, rules}
use Rattle.std.proofs.lemmas.Grind.{common_steps}
use Rattle.wgsl_eval.specs.Evaluators.{setting_of}
use Rattle.wgsl_eval.specs.Given.{below, top}
use Rattle.wgsl_eval.proofs.Items.{items_pushed}
use Rattle.wgsl_eval.proofs.Stacks.{below_dropped, top_dropped}
use Rattle.wgsl_eval.proofs.evaluator.Evaluator.into_declarations.Goals as goal

pub loop-number-preserved : goal.loop-number-preserved
loop-number-preserved c =
    let s = setting_of c.args.self in
    let i = c.loop-number.number in
    let items = c.loop-number.items in
    let counted : length items.items ≡ vec_len items = first_of (search rules, omega (arith, items.ok.0), grind (arith, common_steps)) in
    let at : i ≡ length items.items = omega (arith, counted, c.loop-number.invariant.count) in
    let meaning = c.popped-meaning.ensures.top ∙ ap top c.loop-number.invariant.left ∙ top_dropped s.meanings i in
    record {
      answers = c.popped-meaning.ensures.left;
      left = c.popped-meaning.ensures.below ∙ ap below c.loop-number.invariant.left ∙ below_dropped s.meanings i;
      count = grind (arith, common_steps);
      items = items_pushed s i items.items _ _ _ at meaning c.in_ok-item_of.ensures c.in_ok-push.ensures.items c.loop-number.invariant.items;
    }
