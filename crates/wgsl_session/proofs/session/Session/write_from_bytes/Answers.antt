use Rattle.std.proofs.Common.{false, true, map}
use Rattle.std.proofs.lemmas.Bool.{false≢true}
use Rattle.wgsl_layout.specs.Buffers.{decode}
use Rattle.wgsl_store.proofs.lemmas.Sound.{all-keep}
use Rattle.wgsl_values.specs.View.{reference_of}
use Rattle.wgsl_session.proofs.Handles.{handle-kept}
use Rattle.wgsl_session.proofs.LaidOut.{value-written, none-written, write-stopped, write-at, write-accepted}
use Rattle.wgsl_session.proofs.session.Session.write_from_bytes.Goals as goal
use Rattle.wgsl_session.proofs.session.Session.write_from_bytes.Goals.{then-branch, else-branch}

pub write_bytes-requires : goal.write_bytes-requires
write_bytes-requires c = handle-kept _ _ c.args.handle _ c.self.invariant c.in-Some.ensures

pub invariant_of-self-2 : goal.invariant_of-self-2
invariant_of-self-2 c = all-keep c.self.inside.store c.write_bytes.new.self _ c.in_ok-write_bytes.ensures.kept c.self.invariant

pub returns-in_err-write_bytes-clause-step : goal.returns-in_err-write_bytes-clause-step
returns-in_err-write_bytes-clause-step c =
    let r = reference_of c.in-Some.reference.now in
    let handles = map reference_of c.self.inside.handles.items in
    write-at c.args.self.now c.self.inside.store handles c.args.handle c.args.bytes.now r _ c.from_residual.result c.self.view_is c.in-Some.ensures
    (write-stopped (decode c.args.bytes.now r.ty) c.args.self.now c.self.inside.store c.write_bytes.new.self handles c.args.handle r c.in_err-write_bytes.field-0.0 c.from_residual.result
    c.self.view_is c.in-Some.ensures c.in_err-write_bytes.ensures.outcome c.in_err-write_bytes.ensures.err c.from_residual.ensures.1)

pub returns-in_err-write_bytes-clause-accepted : goal.returns-in_err-write_bytes-clause-accepted
returns-in_err-write_bytes-clause-accepted c = λ q v there flat is accepted.
    let r = reference_of c.in-Some.reference.now in
    let handles = map reference_of c.self.inside.handles.items in
    let taken = write-accepted c.args.self.now c.self.inside.store handles c.args.handle c.args.bytes.now r q v c.self.view_is c.in-Some.ensures there flat is accepted in
    absurd (false≢true (c.in_err-write_bytes.ensures.accepted taken.0 taken.1))

pub returns-clause-step : goal.returns-clause-step
returns-clause-step c =
    let r = reference_of c.in-Some.reference.now in
    let handles = map reference_of c.self.inside.handles.items in
    let d = decode c.args.bytes.now r.ty in
    write-at c.args.self.now c.self.inside.store handles c.args.handle c.args.bytes.now r _ c.if-branch.result c.self.view_is c.in-Some.ensures
    (elim c.if-branch.branch [
      | then-branch w ↦
          rw w.result-is (value-written d c.args.self.now c.self.inside.store c.write_bytes.new.self handles c.args.handle r c.self.view_is c.in-Some.ensures (rw w.if-branch.true at c.in_ok-write_bytes.ensures.outcome))
      | else-branch w ↦
          rw w.result-is (none-written d c.args.self.now c.self.inside.store c.write_bytes.new.self handles c.args.handle r c.self.view_is (c.in_ok-write_bytes.ensures.none w.if-branch.false) (rw w.if-branch.false at c.in_ok-write_bytes.ensures.outcome))
    ])
