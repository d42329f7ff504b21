use Rattle.wgsl_rules.specs.View.{type_view}
use Rattle.wgsl_eval.specs.Calls.{IsOfType}
use Rattle.wgsl_eval.specs.Constructors.{constructed}
use Rattle.wgsl_eval.proofs.CallSteps.{other-for}
use Rattle.wgsl_eval.proofs.evaluator.Evaluator.called.Goals as goal

pub returns-in-Other-clause-call : goal.returns-in-Other-clause-call
returns-in-Other-clause-call c =
    other-for c.args.arguments.items _ (IsOfType (type_view c.args.of.now.ty) (constructed (type_view c.args.of.now.ty))) c.in-Other.answer c.in_ok-values.ensures c.in-Other.is
