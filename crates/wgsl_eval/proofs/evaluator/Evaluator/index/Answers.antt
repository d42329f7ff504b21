use Rattle.wgsl_eval.specs.Parts.{IsElementOf}
use Rattle.wgsl_eval.proofs.Wholes.{whole-given}
use Rattle.wgsl_eval.proofs.evaluator.Evaluator.index.Goals as goal

pub returns-then-has_value-clause-element : goal.returns-then-has_value-clause-element
returns-then-has_value-clause-element c =
    whole-given c.args.self.now.meanings.items c.args.whole (λ whole answer. IsElementOf whole c.args.index answer) c.index_of-answer.result c.index_of-answer.ensures.element
