use Rattle.std.proofs.Common.{sym, ◌∙◌, add-one}
use Rattle.wgsl_values.specs.View.{reference_of}
use Rattle.wgsl_places.proofs.MemoryRows.{all-bytes, all-put, partly-bytes, partly-init, partly-next, partly-none, partly-there}
use Rattle.wgsl_places.proofs.memory.put_row.Goals as goal

pub loop-i-init : goal.loop-i-init
loop-i-init c = partly-init c.args.store.now (reference_of c.args.reference.now) c.args.at c.args.width c.args.numbers.now c.len.ensures.sound c.requires.kept

pub put_number-requires-clause-there : goal.put_number-requires-clause-there
put_number-requires-clause-there c =
    partly-there c.args.store.now c.loop-i.store (reference_of c.args.reference.now) c.args.at c.args.width c.args.numbers.now c.loop-i.i c.len.ensures.sound c.requires.there c.loop-i.invariant c.loop-i-test.true

pub returns-then-not-put_number-clause-bytes : goal.returns-then-not-put_number-clause-bytes
returns-then-not-put_number-clause-bytes c =
    sym c.if-not-put_number.true ∙ c.put_number.ensures.bytes
    ∙ partly-bytes c.args.store.now c.loop-i.store (reference_of c.args.reference.now) c.args.at c.args.width c.args.numbers.now c.loop-i.i c.len.ensures.sound c.requires.there c.loop-i.invariant

pub returns-then-not-put_number-clause-same : goal.returns-then-not-put_number-clause-same
returns-then-not-put_number-clause-same c =
    let none =
    partly-none c.args.store.now c.loop-i.store (reference_of c.args.reference.now) c.args.at c.args.width c.args.numbers.now c.loop-i.i c.loop-i.invariant
    (sym (partly-bytes c.args.store.now c.loop-i.store (reference_of c.args.reference.now) c.args.at c.args.width c.args.numbers.now c.loop-i.i c.len.ensures.sound c.requires.there c.loop-i.invariant) ∙ sym c.put_number.ensures.bytes ∙ c.if-not-put_number.true) in
    c.if-not-put_number.ensures.same ∙ none

pub loop-i-preserved : goal.loop-i-preserved
loop-i-preserved c =
    rw add-one
    (partly-next c.args.store.now c.loop-i.store c.put_number.new.self (reference_of c.args.reference.now) c.args.at c.args.width c.args.numbers.now c.loop-i.i c.len.ensures.sound c.requires.kept c.requires.there c.loop-i.invariant c.loop-i-test.true
    c.a_literal_may_be_stored.ensures (sym c.put_number.ensures.bytes ∙ c.if-not-put_number.false) (record { sound = c.put_number.ensures.sound; keeps = c.put_number.ensures.kept }) c.put_number.ensures.layouts c.if-not-put_number.ensures.put)

pub returns-clause-bytes : goal.returns-clause-bytes
returns-clause-bytes c =
    sym (all-bytes c.args.store.now c.loop-i.store (reference_of c.args.reference.now) c.args.at c.args.width c.args.numbers.now c.loop-i.i c.len.ensures.sound c.requires.there c.loop-i.invariant c.loop-i-test.false)

pub returns-clause-put : goal.returns-clause-put
returns-clause-put c =
    all-put c.args.store.now c.loop-i.store (reference_of c.args.reference.now) c.args.at c.args.width c.args.numbers.now c.loop-i.i c.requires.kept c.loop-i.invariant c.loop-i-test.false
