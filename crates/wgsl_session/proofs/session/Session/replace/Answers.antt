use Rattle.std.proofs.Common.{map}
use Rattle.wgsl_store.proofs.lemmas.Sound.{all-keep}
use Rattle.wgsl_values.specs.View.{reference_of, value_of}
use Rattle.wgsl_session.proofs.Answering.{replace-done, replace-refused}
use Rattle.wgsl_session.proofs.Handles.{handle-kept}
use Rattle.wgsl_session.proofs.session.Session.replace.Goals as goal

pub read_write-requires-clause-kept : goal.read_write-requires-clause-kept
read_write-requires-clause-kept c = handle-kept _ _ c.args.handle _ c.self.invariant c.in-Some.ensures

pub invariant_of-self-2 : goal.invariant_of-self-2
invariant_of-self-2 c = all-keep c.self.inside.store c.read_write.new.store _ c.in_ok-old.ensures.kept c.self.invariant

pub returns-in_err-old-clause-step : goal.returns-in_err-old-clause-step
returns-in_err-old-clause-step c =
    replace-refused c.args.self.now c.self.inside.store c.read_write.new.store (map reference_of c.self.inside.handles.items) c.args.handle (reference_of c.in-Some.reference.now) (value_of c.args.value) c.in_err-old.field-0.0 c.from_residual.result
    c.self.view_is c.in-Some.ensures c.in_err-old.ensures.outcome c.in_err-old.ensures.err c.from_residual.ensures.1

pub returns-clause-step : goal.returns-clause-step
returns-clause-step c =
    replace-done c.args.self.now c.self.inside.store c.read_write.new.store (map reference_of c.self.inside.handles.items) (value_of c.in_ok-old.old) c.args.handle (reference_of c.in-Some.reference.now) (value_of c.args.value) c.self.view_is c.in-Some.ensures c.in_ok-old.ensures.outcome
