use Rattle.wgsl_session.proofs.Handles.{handle-kept}
use Rattle.wgsl_session.proofs.session.Session.read.Goals as goal

pub read-requires : goal.read-requires
read-requires c = handle-kept _ _ c.args.handle _ c.self.invariant c.in-Some.ensures
