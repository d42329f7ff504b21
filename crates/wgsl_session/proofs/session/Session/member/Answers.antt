use Rattle.wgsl_session.proofs.Handles.{handle-kept}
use Rattle.wgsl_session.proofs.session.Session.member.Goals as goal

pub view_member-requires : goal.view_member-requires
view_member-requires c = handle-kept _ _ c.args.handle _ c.self.invariant c.in-Some.ensures
