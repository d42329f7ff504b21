use Rattle.std.proofs.Common.{map}
use Rattle.wgsl_eval.proofs.Walks.{evaluated, named}
use Rattle.wgsl_eval.specs.declared.evaluation.Evaluated.{Evaluated}
use Rattle.wgsl_eval.specs.declared.evaluation.Evaluation.{Evaluation}
use Rattle.wgsl_eval.proofs.evaluation.evaluate_with.Goals as goal

pub returns-clause-names : goal.returns-clause-names
returns-clause-names c =
    named c.args.reading.now c.args.given.now c.args.settings (λ (e : Evaluation). map (λ (v : Evaluated). v.token) e.values.items) _ _ _ _ c.into_evaluation.result
    c.in_ok-evaluator.ensures.unknown c.in_ok-declare_all.ensures.declared c.in_ok-asserts.ensures.asserted c.into_evaluation.ensures.names

pub returns-clause-evaluated : goal.returns-clause-evaluated
returns-clause-evaluated c =
    evaluated c.args.reading.now c.args.given.now c.args.settings _ _ _ _ c.into_evaluation.result
    c.in_ok-evaluator.ensures.unknown c.in_ok-declare_all.ensures.declared c.in_ok-asserts.ensures.asserted c.into_evaluation.ensures.values
    c.into_evaluation.ensures.asserts c.into_evaluation.ensures.told
