use Rattle.std.proofs.lemmas.List.{map-append}
use Rattle.wgsl_session.proofs.Handles.{kept-push}
use Rattle.wgsl_session.proofs.session.Session.add_handle.Goals as goal

pub invariant_of-self-2 : goal.invariant_of-self-2
invariant_of-self-2 c =
    let kept = rw (← c.self.view_is) at c.requires in
    let items = rw c.unwrap.ensures at c.push.ensures.items in
    rw (items, c.in_ok-reserve.ensures.items, map-append) (kept-push c.self.inside.store _ _ c.self.invariant kept)
