use Rattle.std.proofs.Common.{◌≡◌, true, false}
use Rattle.wgsl_scalar.specs.Answers.{refusal_of}
use Rattle.wgsl_values.specs.View.{value_of}
use Rattle.wgsl_types.proofs.Atoms.{accepted_exchange, refused_load}
use Rattle.wgsl_types.proofs.changes.atomicExchange.Goals as goal

pub returns-in_err-old-clause-accepted : goal.returns-in_err-old-clause-accepted
returns-in_err-old-clause-accepted c = λ accepted.
    absurd (refused_load c.args.store.now (value_of c.args.p.now) (refusal_of c.in_err-old.field-0.0) c.in_err-old.ensures (accepted_exchange c.args.store.now (value_of c.args.p.now) (value_of c.args.v.now) accepted).0)

pub returns-in_err-atomicStore-clause-accepted : goal.returns-in_err-atomicStore-clause-accepted
returns-in_err-atomicStore-clause-accepted c = λ accepted.
    let refused : false ≡ true = c.in_err-atomicStore.ensures.accepted (accepted_exchange c.args.store.now (value_of c.args.p.now) (value_of c.args.v.now) accepted).1 in
    absurd (cc)
