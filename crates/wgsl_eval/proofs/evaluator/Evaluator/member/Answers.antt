use Rattle.wgsl_source.specs.Readings.{word_at}
use Rattle.wgsl_eval.specs.Parts.{IsMemberOf}
use Rattle.wgsl_eval.proofs.Wholes.{whole-given}
use Rattle.wgsl_eval.proofs.evaluator.Evaluator.member.Goals as goal

pub returns-then-has_value-clause-member : goal.returns-then-has_value-clause-member
returns-then-has_value-clause-member c =
    whole-given c.args.self.now.meanings.items c.args.whole (IsMemberOf (word_at c.args.self.now.reading.now c.args.token)) c.member_of-answer.result
    c.member_of-answer.ensures.member
