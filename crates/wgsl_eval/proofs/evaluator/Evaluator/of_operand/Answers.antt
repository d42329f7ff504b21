use Rattle.std.proofs.Common.{◌≡◌, Some}
use Rattle.wgsl_apply.specs.Calls.{prefixed}
use Rattle.wgsl_scalar.specs.Answers.{refusal_of}
use Rattle.wgsl_values.specs.View.{value_of}
use Rattle.wgsl_eval.specs.Answers.{value_in}
use Rattle.wgsl_eval.proofs.Refusing.{refused_answer}
use Rattle.wgsl_eval.proofs.evaluator.Evaluator.of_operand.Goals as goal

pub returns-in-Err-clause-given : goal.returns-in-Err-clause-given
returns-in-Err-clause-given c =
    refused_answer c.refused-answer.result (refusal_of c.in-Err.error) (prefixed c.args.operator (value_of c.args.value.now.instance))
    (λ x a. value_in a ≡ Some x)
    c.in-Err.ensures.value c.refused-answer.ensures.fault c.refused-answer.ensures.refusal
