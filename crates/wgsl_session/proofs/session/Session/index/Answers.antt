use Rattle.wgsl_session.proofs.Handles.{handle-kept}
use Rattle.wgsl_session.proofs.session.Session.index.Goals as goal

pub view_index-requires : goal.view_index-requires
view_index-requires c = handle-kept _ _ c.args.handle _ c.self.invariant c.in-Some.ensures
