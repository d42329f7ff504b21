use Rattle.std.proofs.Common.{map, arith}
use Rattle.wgsl_rules.specs.View.{type_view}
use Rattle.wgsl_rules.specs.Values.{Val}
use Rattle.std.proofs.lemmas.List.{map-append}
use Rattle.wgsl_layout.specs.Buffers.{decode}
use Rattle.wgsl_store.proofs.lemmas.Sound.{all-keep}
use Rattle.wgsl_values.specs.View.{reference_of}
use Rattle.wgsl_session.specs.Calls as model
use Rattle.wgsl_session.proofs.Handles.{kept-push}
use Rattle.wgsl_session.proofs.LaidOut.{memory-step, none-made, one-made, same-handles, same-session}
use Rattle.wgsl_session.proofs.session.Session.make_from_bytes.Goals as goal

pub returns-in_err-reserve : goal.returns-in_err-reserve
returns-in_err-reserve c =
    memory-step (λ (v : Val). model.new v c.args.space c.args.access) (decode c.args.bytes.now (type_view c.args.ty)) c.args.self.now _ c.from_residual.result
    (same-handles reference_of c.args.self.now c.self.inside.store c.self.inside.handles.items c.reserve.new.self.items c.self.view_is c.in_err-reserve.ensures.items) c.from_residual.ensures.1

pub returns-in_err-made : goal.returns-in_err-made
returns-in_err-made c =
    memory-step (λ (v : Val). model.new v c.args.space c.args.access) (decode c.args.bytes.now (type_view c.args.ty)) c.args.self.now _ c.from_residual-in_err-made.result
    (same-session reference_of c.args.self.now c.self.inside.store c.new_sharing.new.self c.self.inside.handles.items c.reserve.new.self.items c.self.view_is c.in_err-made.ensures.err c.in_ok-reserve.ensures.items) c.from_residual-in_err-made.ensures.1

pub invariant_of-self-in_default : goal.invariant_of-self-in_default
invariant_of-self-in_default c = rw c.in_ok-reserve.ensures.items (all-keep c.self.inside.store c.new_sharing.new.self (map reference_of c.self.inside.handles.items) c.in_ok-made.ensures.kept c.self.invariant)

pub returns-in_default : goal.returns-in_default
returns-in_default c =
    none-made reference_of (decode c.args.bytes.now (type_view c.args.ty)) c.args.space c.args.access c.args.self.now c.self.inside.store c.new_sharing.new.self c.self.inside.handles.items c.reserve.new.self.items c.in_ok-made.made
    c.self.view_is c.in_ok-reserve.ensures.items c.in_ok-made.ensures.made c.in_default.is

pub invariant_of-self-2 : goal.invariant_of-self-2
invariant_of-self-2 c =
    let new = c.new_sharing.new.self in
    let handles = map reference_of c.self.inside.handles.items in
    let items = rw c.unwrap.ensures at c.push.ensures.items in
    let others = all-keep c.self.inside.store new handles c.in_ok-made.ensures.kept c.self.invariant in
    rw (items, c.in_ok-reserve.ensures.items, map-append) (kept-push new handles (reference_of c.in-Some.reference) others (rw c.in-Some.is at c.in_ok-made.ensures.own_kept))

pub returns : goal.returns
returns c =
    let items = rw c.unwrap.ensures at c.push.ensures.items in
    one-made reference_of (decode c.args.bytes.now (type_view c.args.ty)) c.args.space c.args.access c.args.self.now c.self.inside.store c.new_sharing.new.self c.self.inside.handles.items c.push.new.self.items c.in_ok-made.made
    c.in-Some.reference c.len-handle.result c.self.view_is (rw c.in_ok-reserve.ensures.items at items) (omega (arith, c.len-handle.ensures, c.self.inside.handles.ok.0)) c.in_ok-made.ensures.made c.in-Some.is
