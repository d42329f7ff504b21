use Rattle.std.proofs.Common.{map}
use Rattle.std.proofs.lemmas.List.{map-append}
use Rattle.wgsl_store.proofs.lemmas.Sound.{all-keep}
use Rattle.wgsl_values.specs.View.{reference_of}
use Rattle.wgsl_session.proofs.Handles.{kept-push}
use Rattle.wgsl_session.proofs.session.Session.make.Goals as goal

pub invariant_of-self-2 : goal.invariant_of-self-2
invariant_of-self-2 c =
    let new = c.new.new.store in
    let handles = map reference_of c.self.inside.handles.items in
    let items = rw c.unwrap.ensures at c.push.ensures.items in
    let others = all-keep c.self.inside.store new handles c.in_ok-reference.ensures.kept c.self.invariant in
    rw (items, c.in_ok-reserve.ensures.items, map-append) (kept-push new handles (reference_of c.in_ok-reference.reference) others c.in_ok-reference.ensures.own_kept)
