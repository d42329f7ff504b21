-- What follows from the equation of settings.
use Rattle.std.proofs.Common.{◌≡◌, List, ap, subst, sym}
use Rattle.wgsl_eval.specs.Answers.{AreAnswers}
use Rattle.wgsl_eval.specs.Evaluators.{Setting, setting_of}
use Rattle.wgsl_eval.specs.declared.answer.Answer.{Answer}
use Rattle.wgsl_eval.specs.declared.evaluator.Evaluator.{Evaluator}

-- the meanings are answers still
pub kept_answers : (a b : Evaluator) → setting_of b ≡ setting_of a → AreAnswers a.meanings.items → AreAnswers b.meanings.items
kept_answers a b e h =
    let same : a.meanings.items ≡ b.meanings.items = sym (ap (λ (s : Setting). s.meanings) e) in
    let P : List Answer → Type 0 = λ ms. AreAnswers ms in
    subst P same h
