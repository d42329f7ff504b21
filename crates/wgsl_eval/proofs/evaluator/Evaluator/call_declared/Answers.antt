use Rattle.std.proofs.Common.{ap}
use Rattle.wgsl_eval.proofs.CallSteps.{some-call-at}
use Rattle.wgsl_eval.specs.Answers.{meaning_at}
use Rattle.wgsl_eval.specs.Calls.{IsCopy}
use Rattle.wgsl_eval.specs.Evaluators.{Setting}
use Rattle.wgsl_eval.proofs.evaluator.Evaluator.call_declared.Goals as goal

pub returns-clause-call : goal.returns-clause-call
returns-clause-call c =
    some-call-at c.args.self.now.dialect c.copied.new.self.dialect (IsCopy (meaning_at c.args.self.now.meanings.items c.args.number)) c.in_ok-callee.callee c.args.arguments.items
    c.call_answer.result (ap (λ (s : Setting). s.dialect) c.copied.ensures.keeps) c.in_ok-callee.ensures.copy c.call_answer.ensures.call
