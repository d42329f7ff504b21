use Rattle.std.proofs.Common.{ap, refl}
use Rattle.wgsl_eval.proofs.Puts.{told_fault}
use Rattle.wgsl_eval.specs.declared.message.Message.{Message}
use Rattle.wgsl_eval.proofs.evaluator.Evaluator.refuted.Goals as goal

pub returns : goal.returns
returns c = (refl, told_fault _ _ c.fault.result (ap (λ (m : Message). m.severity) c.fault.ensures) c.in_ok-tell.ensures.told)
