use Rattle.std.proofs.Common.{sym, ◌∙◌}
use Rattle.std.proofs.lemmas.Bool.{false≢true}
use Rattle.wgsl_values.specs.View.{reference_of}
use Rattle.wgsl_store.specs.Copies.{are_in_bytes}
use Rattle.wgsl_store.proofs.CopiedCells.{misfit-refused, not-in-bytes}
use Rattle.wgsl_store.proofs.references.copy_part.Goals as goal

pub returns-in_err-misfit_of_part-in-Misfit-clause-accepted : goal.returns-in_err-misfit_of_part-in-Misfit-clause-accepted
returns-in_err-misfit_of_part-in-Misfit-clause-accepted c = λ b k.
    absurd (misfit-refused (are_in_bytes c.args.store.now (reference_of c.args.from.now) (reference_of c.args.to.now)) c.args.store.now c.copy.new.self (reference_of c.args.from.now) (reference_of c.args.to.now)
    c.requires.may_read c.requires.may_write c.requires.from c.requires.to (rw c.in-Misfit.is at c.copy.ensures.copied) k)

pub returns-in_ok-misfit_of_part-in-Misfit-clause-accepted : goal.returns-in_ok-misfit_of_part-in-Misfit-clause-accepted
returns-in_ok-misfit_of_part-in-Misfit-clause-accepted c = λ b k.
    absurd (misfit-refused (are_in_bytes c.args.store.now (reference_of c.args.from.now) (reference_of c.args.to.now)) c.args.store.now c.copy.new.self (reference_of c.args.from.now) (reference_of c.args.to.now)
    c.requires.may_read c.requires.may_write c.requires.from c.requires.to (rw c.in-Misfit.is at c.copy.ensures.copied) k)

pub returns-in-NotBytes-clause-accepted : goal.returns-in-NotBytes-clause-accepted
returns-in-NotBytes-clause-accepted c = λ b k.
    absurd (false≢true (sym (not-in-bytes (are_in_bytes c.args.store.now (reference_of c.args.from.now) (reference_of c.args.to.now)) c.args.store.now c.copy.new.self (reference_of c.args.from.now) (reference_of c.args.to.now)
    (rw c.in-NotBytes.is at c.copy.ensures.copied)) ∙ b))
