use Rattle.wgsl_eval.proofs.Puts.{refuted_assertion}
use Rattle.wgsl_eval.proofs.evaluator.Evaluator.assertion_of.Goals as goal

pub returns-in-Type : goal.returns-in-Type
returns-in-Type c = refuted_assertion _ _ c.args.answer c.refuted.result c.in-Type.is c.refuted.ensures
