use Rattle.wgsl_eval.specs.Evaluators.{setting_of}
use Rattle.wgsl_eval.specs.Structures.{is_valid_for}
use Rattle.wgsl_eval.proofs.Structures.{number_attribute}
use Rattle.wgsl_eval.proofs.evaluator.Evaluator.attribute.Goals as goal

pub returns-in-Value-clause-attribute : goal.returns-in-Value-clause-attribute
returns-in-Value-clause-attribute c =
    number_attribute (setting_of c.args.self.now) c.args.span c.in-Some.span (is_valid_for c.args.of) c.in_ok-answer.answer c.in-Value.value c.number_for-number.result c.in-Some.is
    c.in_ok-answer.ensures.found c.in-Value.is c.number_for-number.ensures
