use Rattle.wgsl_eval.specs.Calls.{function_of}
use Rattle.wgsl_eval.specs.Constructors.{MayBe}
use Rattle.wgsl_eval.proofs.CallSteps.{other-for}
use Rattle.wgsl_eval.proofs.evaluator.Evaluator.call_counted.Goals as goal

pub returns-in-Other-clause-call : goal.returns-in-Other-clause-call
returns-in-Other-clause-call c =
    other-for c.args.arguments.items _ (λ vs. MayBe (function_of c.args.self.now.dialect c.args.function c.args.self.now.stage vs)) c.in-Other.answer c.in_ok-values.ensures c.in-Other.is
