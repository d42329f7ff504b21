use Rattle.std.proofs.Common.{refl}
use Rattle.wgsl_eval.specs.Evaluators.{setting_of}
use Rattle.wgsl_eval.specs.Given.{IsOfTwo}
use Rattle.wgsl_eval.proofs.Refusing.{left_unready, not_refused, refused_faulty}
use Rattle.wgsl_eval.proofs.evaluator.Evaluator.binary.Goals as goal

pub returns-then-is_refused-clause-given : goal.returns-then-is_refused-clause-given
returns-then-is_refused-clause-given c =
    refused_faulty c.is_refused.result c.args.self.now.reading.now c.args.token _ c.is_refused.ensures c.if-is_refused.true

pub returns-in_default : goal.returns-in_default
returns-in_default c =
    let s = setting_of c.args.self.now in
    record {
      keeps = refl;
      given = not_refused c.is_refused.result s.source c.args.token c.unready.result (IsOfTwo s c.args.operator c.args.left c.args.right) c.is_refused.ensures c.if-is_refused.false
          (left_unready s c.args.operator c.args.left c.args.right c.unready.result c.in_default.not-Value c.unready.ensures.unready);
      answer = c.unready.ensures.answer;
    }
