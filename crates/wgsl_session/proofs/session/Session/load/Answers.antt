use Rattle.std.proofs.Common.{map}
use Rattle.wgsl_values.specs.View.{reference_of, value_of}
use Rattle.wgsl_session.proofs.Answering.{load-done, load-refused}
use Rattle.wgsl_session.proofs.Handles.{handle-kept}
use Rattle.wgsl_session.proofs.session.Session.load.Goals as goal

pub read-requires : goal.read-requires
read-requires c = handle-kept _ _ c.args.handle _ c.self.invariant c.in-Some.ensures

pub returns-in_err-loaded-clause-step : goal.returns-in_err-loaded-clause-step
returns-in_err-loaded-clause-step c =
    let kept = handle-kept c.self.inside.store _ c.args.handle _ c.self.invariant c.in-Some.ensures in
    load-refused c.args.self.now c.self.inside.store (map reference_of c.self.inside.handles.items) c.args.handle (reference_of c.in-Some.reference.now) (value_of c.in_ok-value.value) c.in_err-loaded.field-0.0 c.from_residual-in_err-loaded.result
    c.self.view_is kept c.in-Some.ensures c.in_ok-value.ensures.outcome c.in_err-loaded.ensures.outcome c.from_residual-in_err-loaded.ensures.1

pub returns-clause-step : goal.returns-clause-step
returns-clause-step c =
    let kept = handle-kept c.self.inside.store _ c.args.handle _ c.self.invariant c.in-Some.ensures in
    load-done c.args.self.now c.self.inside.store (map reference_of c.self.inside.handles.items) c.args.handle (reference_of c.in-Some.reference.now) (value_of c.in_ok-value.value) (value_of c.in_ok-loaded.loaded) c.self.view_is kept c.in-Some.ensures c.in_ok-value.ensures.outcome c.in_ok-loaded.ensures.outcome

pub returns-clause-content : goal.returns-clause-content
returns-clause-content c = rw (← c.self.view_is) (c.in_ok-loaded.ensures.storable c.in_ok-value.ensures.content.0, c.in_ok-loaded.ensures.held)
