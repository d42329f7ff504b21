use Rattle.wgsl_values.specs.View.{reference_of}
use Rattle.wgsl_session.proofs.Handles.{found-kept}
use Rattle.wgsl_session.proofs.session.Session.reference.Goals as goal

pub returns-clause-kept : goal.returns-clause-kept
returns-clause-kept c = rw (← c.self.view_is) (found-kept (λ r. reference_of r.now) c.self.inside.store _ c.args.handle c.reference_at.result c.self.invariant c.reference_at.ensures)
