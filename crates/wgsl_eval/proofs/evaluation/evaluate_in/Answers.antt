use Rattle.std.proofs.Common.{map, refl}
use Rattle.wgsl_eval.proofs.Walks.{evaluated_before, named_before}
use Rattle.wgsl_eval.specs.declared.evaluation.Evaluated.{Evaluated}
use Rattle.wgsl_eval.specs.declared.evaluation.Evaluation.{Evaluation}
use Rattle.wgsl_eval.proofs.evaluation.evaluate_in.Goals as goal

pub returns-clause-names : goal.returns-clause-names
returns-clause-names c =
    named_before c.args.reading.now _ c.args.settings.stage (λ (e : Evaluation). map (λ (v : Evaluated). v.token) e.values.items) c.evaluate_with.result refl
    c.evaluate_with.ensures.names

pub returns-clause-evaluated : goal.returns-clause-evaluated
returns-clause-evaluated c = evaluated_before c.args.reading.now _ c.args.settings c.evaluate_with.result refl c.evaluate_with.ensures.evaluated
