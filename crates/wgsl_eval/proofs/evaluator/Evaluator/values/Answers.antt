use Rattle.std.specs.declared.alloc.AllocError.{AllocError}
use Rattle.std.proofs.Common.{◌≡◌, List, ◌∷◌, ◌++◌, Some, Result, Ok, Err, IfOk, sym, subst}
use Rattle.std.specs.Prelude.{IsOkAnd, MatchResult}
use Rattle.std.specs.Vec.Iter.{into_iter_items}
use Rattle.wgsl_rules.specs.Values.{Val}
use Rattle.wgsl_eval.specs.Answers.{IsAnswer, IsUnready}
use Rattle.wgsl_eval.specs.Calls.{AreValues, values_of}
use Rattle.wgsl_eval.specs.declared.answer.Answer.{Answer}
use Rattle.wgsl_eval.specs.declared.answer.Answer.TheVariants as answers
use Rattle.wgsl_eval.specs.declared.answer.Value.{Value}
use Rattle.wgsl_eval.specs.declared.call.Arguments.{Arguments}
use Rattle.wgsl_eval.specs.declared.call.Arguments.TheVariants as arguments
use Rattle.wgsl_eval.proofs.CallSteps.{no-value-among}
use Rattle.wgsl_eval.proofs.TakenValues.{taken-all, taken-stored, taken-values}
use Rattle.wgsl_eval.proofs.evaluator.Evaluator.values.Goals as goal

pub loop-argument-preserved : goal.loop-argument-preserved
loop-argument-preserved c =
    let all = c.args.arguments.items in
    let taken = c.loop-argument.yielded in
    let rest = into_iter_items c.loop-argument.argument-iterator in
    let more = into_iter_items c.next.new.self in
    let a = c.in-Some.argument in
    let v = c.in-Value.value in
    record {
      all = taken-all all taken rest more a c.loop-argument.invariant.all c.in-Some.ensures.steps.0;
      values = taken-values taken c.loop-argument.values.items c.push.new.self.items a v c.in-Value.is c.in_ok-push-in-Value.ensures.items c.loop-argument.invariant.values;
      sound = taken-stored all taken rest more a v c.loop-argument.values.items c.push.new.self.items c.requires c.loop-argument.invariant.all c.in-Some.ensures.steps.0
          c.in-Value.is c.loop-argument.invariant.sound c.in_ok-push-in-Value.ensures.items;
    }

-- the first of the arguments that is no value, and what is put in the place of all
others-among : (all taken rest more : List Answer) (ws : List Val) (a : Answer) (r : Result Answer AllocError) (s : Result Arguments AllocError) → taken ++ rest ≡ all
    → rest ≡ a ∷ more → values_of taken ≡ Some ws → ((v : Value) → a ≡ answers.Value v → ⊥) → IfOk r (IsUnready a) → IfOk r IsAnswer
    → MatchResult r (λ b. IsOkAnd s (λ x. x ≡ arguments.Other b)) (λ e. s ≡ Err e) → IfOk s (AreValues all)
others-among all taken rest more ws a (Ok b) (Ok x) e k values n h i m =
    let P : Arguments → Type 0 = λ y. AreValues all y in
    subst P (sym m) (no-value-among all taken rest more ws a b e k values n h, i)
others-among all taken rest more ws a (Err z) (Ok x) e k values n h i m = absurd (cc)
others-among all taken rest more ws a r (Err z) e k values n h i m = tt

pub returns-in_default : goal.returns-in_default
returns-in_default c =
    others-among c.args.arguments.items c.loop-argument.yielded (into_iter_items c.loop-argument.argument-iterator) (into_iter_items c.next.new.self) _ c.in-Some.argument
    c.unready.result c.map.result c.loop-argument.invariant.all c.in-Some.ensures.steps.0 c.loop-argument.invariant.values c.in_default.not-Value
    c.unready.ensures.unready c.unready.ensures.answer c.map.ensures.cases
