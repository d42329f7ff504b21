use Rattle.std.proofs.Common.{map}
use Rattle.wgsl_store.proofs.lemmas.Sound.{all-keep}
use Rattle.wgsl_values.specs.View.{reference_of}
use Rattle.wgsl_session.proofs.Answering.{copy-done, copy-refused}
use Rattle.wgsl_session.proofs.Handles.{handle-kept}
use Rattle.wgsl_session.proofs.session.Session.copy.Goals as goal

pub copy_to-requires-clause-from : goal.copy_to-requires-clause-from
copy_to-requires-clause-from c = handle-kept _ _ c.args.from _ c.self.invariant c.in-Some.ensures

pub copy_to-requires-clause-to : goal.copy_to-requires-clause-to
copy_to-requires-clause-to c = handle-kept _ _ c.args.to _ c.self.invariant c.in-Some-reference_at.ensures

pub invariant_of-self-2 : goal.invariant_of-self-2
invariant_of-self-2 c = all-keep c.self.inside.store c.copy_to.new.store _ c.in_ok-copy_to.ensures.kept c.self.invariant

pub returns-in_err-copy_to-clause-step : goal.returns-in_err-copy_to-clause-step
returns-in_err-copy_to-clause-step c =
    copy-refused c.args.self.now c.self.inside.store c.copy_to.new.store (map reference_of c.self.inside.handles.items) c.args.from c.args.to (reference_of c.in-Some.source.now) (reference_of c.in-Some-reference_at.target.now) c.in_err-copy_to.field-0.0 c.from_residual.result
    c.self.view_is c.in-Some.ensures c.in-Some-reference_at.ensures c.in_err-copy_to.ensures.outcome c.in_err-copy_to.ensures.err c.from_residual.ensures.1

pub returns-clause-step : goal.returns-clause-step
returns-clause-step c =
    copy-done c.args.self.now c.self.inside.store c.copy_to.new.store (map reference_of c.self.inside.handles.items) c.args.from c.args.to (reference_of c.in-Some.source.now) (reference_of c.in-Some-reference_at.target.now)
    c.self.view_is c.in-Some.ensures c.in-Some-reference_at.ensures c.in_ok-copy_to.ensures.outcome
