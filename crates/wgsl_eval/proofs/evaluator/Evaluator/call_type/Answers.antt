use Rattle.std.proofs.Common.{◌∙◌, ap}
use Rattle.wgsl_eval.proofs.CallSteps.{typed-call}
use Rattle.wgsl_eval.specs.Evaluators.{Setting, setting_of}
use Rattle.wgsl_eval.proofs.evaluator.Evaluator.call_type.Goals as goal

pub returns-in_ok-callee-in_default : goal.returns-in_ok-callee-in_default
returns-in_ok-callee-in_default c = record {
  keeps = c.call_answer.ensures.keeps ∙ c.language_type.ensures.keeps;
  call = typed-call (setting_of c.args.self.now) c.language_type.new.self.dialect c.args.named c.in_ok-callee-in_default.callee c.args.arguments.items c.call_answer.result c.in_default.not-Generator
      (ap (λ (s : Setting). s.dialect) c.language_type.ensures.keeps) c.in_ok-callee-in_default.ensures.ty c.call_answer.ensures.call;
  answer = c.call_answer.ensures.answer;
}
