use Rattle.std.proofs.Common.{◌∙◌, sym}
use Rattle.wgsl_values.specs.View.{value_of, reference_of}
use Rattle.wgsl_store.proofs.Answered.{read_written-is}
use Rattle.wgsl_store.proofs.references.exchange.Goals as goal

pub returns-in-Some-clause-outcome : goal.returns-in-Some-clause-outcome
returns-in-Some-clause-outcome c =
    let there = rw c.in-Some.is at c.in_ok-old.ensures.exchanged in
    read_written-is c.args.store.now c.replace.new.self (reference_of c.args.reference.now) (value_of c.args.value.now) (value_of c.in-Some.old) (sym (rw c.access.ensures at c.is_write.ensures) ∙ c.if-not-is_write.false) there.0 there.1 there.2
