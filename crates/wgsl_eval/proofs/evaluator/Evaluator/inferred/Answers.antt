use Rattle.wgsl_eval.specs.Constructors.{IsInferred}
use Rattle.wgsl_eval.proofs.CallSteps.{other-for}
use Rattle.wgsl_eval.proofs.evaluator.Evaluator.inferred.Goals as goal

pub returns-in-Other-clause-value : goal.returns-in-Other-clause-value
returns-in-Other-clause-value c =
    other-for c.args.arguments.items _ (IsInferred c.args.self.now.dialect c.args.generator) c.in-Other.answer c.in_ok-values.ensures c.in-Other.is
