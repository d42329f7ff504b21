use Rattle.std.proofs.Common.{map}
use Rattle.wgsl_store.proofs.lemmas.Sound.{all-keep}
use Rattle.wgsl_values.specs.View.{reference_of, value_of}
use Rattle.wgsl_session.proofs.Answering.{write-done, write-refused}
use Rattle.wgsl_session.proofs.Handles.{handle-kept}
use Rattle.wgsl_session.proofs.session.Session.write.Goals as goal

pub write-requires-clause-kept : goal.write-requires-clause-kept
write-requires-clause-kept c = handle-kept _ _ c.args.handle _ c.self.invariant c.in-Some.ensures

pub invariant_of-self-2 : goal.invariant_of-self-2
invariant_of-self-2 c = all-keep c.self.inside.store c.write.new.store _ c.in_ok-write.ensures.kept c.self.invariant

pub returns-in_err-write-clause-step : goal.returns-in_err-write-clause-step
returns-in_err-write-clause-step c =
    write-refused c.args.self.now c.self.inside.store c.write.new.store (map reference_of c.self.inside.handles.items) c.args.handle (reference_of c.in-Some.reference.now) (value_of c.args.value) c.in_err-write.field-0.0 c.from_residual.result
    c.self.view_is c.in-Some.ensures c.in_err-write.ensures.outcome c.in_err-write.ensures.err c.from_residual.ensures.1

pub returns-clause-step : goal.returns-clause-step
returns-clause-step c =
    write-done c.args.self.now c.self.inside.store c.write.new.store (map reference_of c.self.inside.handles.items) c.args.handle (reference_of c.in-Some.reference.now) (value_of c.args.value) c.self.view_is c.in-Some.ensures c.in_ok-write.ensures.outcome
