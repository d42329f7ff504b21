use Rattle.wgsl_eval.proofs.CallSteps.{fault-counted}
use Rattle.wgsl_eval.proofs.evaluator.Evaluator.counted.Goals as goal

pub returns-in_default-natural-clause-counted : goal.returns-in_default-natural-clause-counted
returns-in_default-natural-clause-counted c =
    fault-counted c.args.inner c.args.count c.in-Value.value c.wrong_text.result c.in-Value.is c.wrong_text.ensures.fault
