use Rattle.std.proofs.Common.{◌≡◌, Bool, true, MatchBool, refl, sym, ◌∙◌}
use Rattle.wgsl_eval.specs.Answers.{IsSkippedFor}
use Rattle.wgsl_eval.specs.Meanings.{IsWithheld}
use Rattle.wgsl_eval.specs.declared.answer.Answer.{Answer}
use Rattle.wgsl_eval.specs.declared.answer.Answer.TheVariants as answers
use Rattle.wgsl_eval.specs.declared.answer.Guard.{Guard}
use Rattle.wgsl_eval.specs.declared.answer.Need.TheVariants as needs
use Rattle.wgsl_eval.specs.declared.message.Message.{Message}
use Rattle.wgsl_eval.proofs.evaluator.Evaluator.withheld.Goals as goal

-- what is no fault is skipped
skipped_for : (own a : Answer) → ((m : Message) (g : Guard) → own ≡ answers.Wrong m g → ⊥) → (own ≡ answers.Faulty → ⊥) → IsSkippedFor needs.Override a → IsWithheld own a
skipped_for (answers.Wrong m g) a not_wrong not_faulty h = absurd (not_wrong m g refl)
skipped_for answers.Faulty a not_wrong not_faulty h = absurd (not_faulty refl)
skipped_for (answers.Value v) a not_wrong not_faulty h = h
skipped_for (answers.Named n) a not_wrong not_faulty h = h
skipped_for (answers.Type t) a not_wrong not_faulty h = h
skipped_for (answers.Bitcast t) a not_wrong not_faulty h = h
skipped_for (answers.Variable v) a not_wrong not_faulty h = h
skipped_for (answers.Skipped s) a not_wrong not_faulty h = h

in_first : (b : Bool) (P Q : Type 0) → b ≡ true → P → MatchBool b P Q
in_first b P Q is p = rw is p

pub returns-in_default : goal.returns-in_default
returns-in_default c = record {
  withheld =
      in_first _ _ _ (sym c.is_first.ensures ∙ c.if-not-is_first.false)
      (skipped_for c.args.own c.skipped.result c.in_default.not-Wrong c.in_default.not-Faulty c.skipped.ensures.skipped);
  answer = c.skipped.ensures.answer;
}
