use Rattle.wgsl_rules.specs.View.{type_view}
use Rattle.wgsl_eval.specs.Calls.{IsOfType, bitcast_alone}
use Rattle.wgsl_eval.proofs.CallSteps.{other-for}
use Rattle.wgsl_eval.proofs.evaluator.Evaluator.bitcast_called.Goals as goal

pub returns-in-Other-clause-call : goal.returns-in-Other-clause-call
returns-in-Other-clause-call c =
    other-for c.args.arguments.items _ (IsOfType (type_view c.args.of.now.ty) (bitcast_alone c.args.self.now.dialect (type_view c.args.of.now.ty))) c.in-Other.answer c.in_ok-values.ensures c.in-Other.is
