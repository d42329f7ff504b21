use Rattle.wgsl_eval.proofs.Beyond.{beyond-type, limited-type}
use Rattle.wgsl_eval.proofs.evaluator.Evaluator.type_of.Goals as goal

pub returns-then-is_integral-clause-ty : goal.returns-then-is_integral-clause-ty
returns-then-is_integral-clause-ty c =
    beyond-type _ _ c.in_ok-answer.answer c.beyond.result (limited-type _ c.in_ok-of.of c.in_ok-answer.answer c.in_ok-of.ensures c.in_ok-answer.ensures.limited) c.beyond.ensures.beyond
