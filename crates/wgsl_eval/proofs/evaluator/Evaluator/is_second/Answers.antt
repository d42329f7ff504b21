use Rattle.wgsl_eval.proofs.Seconds.{second-is}
use Rattle.wgsl_eval.proofs.evaluator.Evaluator.is_second.Goals as goal

pub returns : goal.returns
returns c =
    second-is c.args.self.now.reading.now c.args.number c.name.result c.word-name.result.now c.number_of.result c.is_other.result
    c.number_of.ensures c.word-name.ensures c.name.ensures c.is_other.ensures
