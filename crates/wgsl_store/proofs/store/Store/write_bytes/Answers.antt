use Rattle.wgsl_rules.specs.Refusals.{not_write, write_ref_type}
use Rattle.wgsl_values.specs.View.{reference_of}
use Rattle.wgsl_layout.specs.Buffers.{decode}
use Rattle.wgsl_store.specs.Copies.{in_bytes}
use Rattle.wgsl_store.specs.LaidOut.{written_of}
use Rattle.wgsl_store.proofs.LaidCells.{came-done, came-misfit, came-not-write, not-accepted}
use Rattle.wgsl_layout.proofs.LaidValues.{decode-lays}
use Rattle.wgsl_store.proofs.store.Store.write_bytes.Goals as goal

pub returns-in-Done-clause-outcome : goal.returns-in-Done-clause-outcome
returns-in-Done-clause-outcome c =
    let r = reference_of c.args.reference.now in
    came-done (in_bytes c.args.self.now r) c.args.self.now c.put_bytes.new.self r (decode c.args.bytes.now r.ty) c.in-Done.ensures.put

pub returns-in-NotWrite-clause-outcome : goal.returns-in-NotWrite-clause-outcome
returns-in-NotWrite-clause-outcome c =
    let r = reference_of c.args.reference.now in
    came-not-write (in_bytes c.args.self.now r) c.args.self.now c.put_bytes.new.self r (decode c.args.bytes.now r.ty) c.in-NotWrite.ensures.put

pub returns-in-NotWrite-clause-accepted : goal.returns-in-NotWrite-clause-accepted
returns-in-NotWrite-clause-accepted c = λ b k.
    let r = reference_of c.args.reference.now in
    let laid = decode c.args.bytes.now r.ty in
    absurd (not-accepted (written_of c.args.self.now r laid) not_write (came-not-write (in_bytes c.args.self.now r) c.args.self.now c.put_bytes.new.self r laid c.in-NotWrite.ensures.put) k)

pub returns-in_ok-misfit_of_part-in-Misfit-clause-outcome : goal.returns-in_ok-misfit_of_part-in-Misfit-clause-outcome
returns-in_ok-misfit_of_part-in-Misfit-clause-outcome c =
    let r = reference_of c.args.reference.now in
    rw c.in_ok-misfit_of_part-in-Misfit.ensures
    (came-misfit (in_bytes c.args.self.now r) c.args.self.now c.put_bytes.new.self r (decode c.args.bytes.now r.ty) c.requires (λ w e. (decode-lays c.args.bytes.now r.ty w e).typed) c.in-Misfit.ensures.put)

pub returns-in_ok-misfit_of_part-in-Misfit-clause-accepted : goal.returns-in_ok-misfit_of_part-in-Misfit-clause-accepted
returns-in_ok-misfit_of_part-in-Misfit-clause-accepted c = λ b k.
    let r = reference_of c.args.reference.now in
    let laid = decode c.args.bytes.now r.ty in
    absurd (not-accepted (written_of c.args.self.now r laid) (write_ref_type r.ty r.ty)
    (came-misfit (in_bytes c.args.self.now r) c.args.self.now c.put_bytes.new.self r laid c.requires (λ w e. (decode-lays c.args.bytes.now r.ty w e).typed) c.in-Misfit.ensures.put) k)

pub returns-in_err-misfit_of_part-in-Misfit-clause-accepted : goal.returns-in_err-misfit_of_part-in-Misfit-clause-accepted
returns-in_err-misfit_of_part-in-Misfit-clause-accepted c = λ b k.
    let r = reference_of c.args.reference.now in
    let laid = decode c.args.bytes.now r.ty in
    absurd (not-accepted (written_of c.args.self.now r laid) (write_ref_type r.ty r.ty)
    (came-misfit (in_bytes c.args.self.now r) c.args.self.now c.put_bytes.new.self r laid c.requires (λ w e. (decode-lays c.args.bytes.now r.ty w e).typed) c.in-Misfit.ensures.put) k)
