use Rattle.wgsl_eval.proofs.evaluator.Evaluator.refused.Goals as goal

pub returns-clause-guard : goal.returns-clause-guard
returns-clause-guard c = rw (← c.is_of_numbers.ensures, ← c.guard_for-guard.ensures) c.wrong.ensures.guard
