use Rattle.wgsl_session.proofs.InStep.{in-step}
use Rattle.wgsl_session.proofs.Good.{good-after}
use Rattle.wgsl_session.proofs.session.Session.call.Goals as goal

pub returns-clause-bytes : goal.returns-clause-bytes
returns-clause-bytes c = in-step _ _ _ _ c.attest.ensures c.requires c.answer.ensures.step

pub returns-clause-good : goal.returns-clause-good
returns-clause-good c = good-after _ _ _ _ c.attest.ensures c.requires c.answer.ensures.step
