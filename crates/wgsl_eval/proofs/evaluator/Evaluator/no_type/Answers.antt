use Rattle.wgsl_eval.proofs.Structures.{fault-no_type}
use Rattle.wgsl_eval.proofs.evaluator.Evaluator.no_type.Goals as goal

pub returns-in-Value-clause-none : goal.returns-in-Value-clause-none
returns-in-Value-clause-none c = fault-no_type c.args.answer c.wrong_text.result c.in-Value.is c.wrong_text.ensures.fault
