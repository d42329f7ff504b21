use Rattle.std.proofs.Common.{arith}
use Rattle.std.proofs.lemmas.Grind.{common_steps}
use Rattle.wgsl_eval.proofs.CallSteps.{two-generated}
use Rattle.wgsl_eval.proofs.evaluator.Evaluator.generated.Goals as goal

pub returns-in-Array-eq2-clause-generated : goal.returns-in-Array-eq2-clause-generated
returns-in-Array-eq2-clause-generated c =
    two-generated c.args.generator c.args.arguments.items c.unwrap_or-inner.result c.unwrap_or-last.result c.counted.result c.in-Array-eq2.is-0 (grind (arith, common_steps))
    c.counted.ensures.counted
