use Rattle.std.specs.Prelude.{◌&&◌}
use Rattle.wgsl_apply.specs.Calls.{operated}
use Rattle.wgsl_apply.specs.Standard.{is_against}
use Rattle.wgsl_scalar.specs.Answers.{refusal_of}
use Rattle.wgsl_values.specs.View.{value_of}
use Rattle.wgsl_eval.specs.Given.{IsJudged}
use Rattle.wgsl_eval.proofs.Refusing.{refused_answer}
use Rattle.wgsl_eval.proofs.evaluator.Evaluator.of_operands.Goals as goal

pub returns-in-Err-clause-given : goal.returns-in-Err-clause-given
returns-in-Err-clause-given c =
    let e = c.args.self.now in
    let v = value_of c.args.left.now.instance in
    let w = value_of c.args.right.now.instance in
    refused_answer c.refused-answer.result (refusal_of c.in-Err.error) (operated c.args.operator e.stage v w)
    (λ x a. IsJudged (e.is_strict && is_against c.args.operator e.stage v w) x a)
    c.in-Err.ensures.value c.refused-answer.ensures.fault c.refused-answer.ensures.refusal
