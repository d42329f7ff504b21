use Rattle.std.proofs.Common.{◌∙◌, is_some, ap, sym}
use Rattle.wgsl_rules.specs.Access.{can_write}
use Rattle.wgsl_scalar.specs.Literals.{literal_of}
use Rattle.wgsl_values.specs.View.{reference_of}
use Rattle.wgsl_places.specs.Memory.{takes_at}
use Rattle.wgsl_places.proofs.MemoryCalls.{not-stored, not-written, number-stored, number-there, stored-where}
use Rattle.wgsl_places.proofs.MemoryPlaces.{places-stay, takes-nothing, takes-told}
use Rattle.wgsl_places.proofs.places.Places.store_in.Goals as goal
use Rattle.wgsl_places.proofs.places.Places.store_in.Goals.{then-not-is_write-via-then-not-is_write, then-not-is_write-via-else-not-is_write+then-place-ne1}

pub returns-then-not-is_write-clause-answer : goal.returns-then-not-is_write-clause-answer
returns-then-not-is_write-clause-answer c path =
    elim c.then-not-is_write.branch [
      | then-not-is_write-via-then-not-is_write w ↦
          not-written c.args.self.now c.args.store.now (reference_of c.args.reference.now) c.args.place path (λ x. takes_at path x (literal_of c.args.number)) c.requires.kept (ap can_write (sym c.access.ensures) ∙ sym c.is_write.ensures ∙ w.if-not-is_write.true)
      | then-not-is_write-via-else-not-is_write+then-place-ne1 w ↦
          not-stored c.args.self.now c.args.store.now (reference_of c.args.reference.now) c.args.place path (λ x. takes_at path x (literal_of c.args.number)) c.requires.kept (λ x place. takes-nothing c.args.self.now x path c.args.place c.args.number w.if-place-ne1.true place)
    ]

pub put_number-requires-clause-there : goal.put_number-requires-clause-there
put_number-requires-clause-there c =
    number-there c.args.self.now c.args.store.now (reference_of c.args.reference.now) c.args.place c.args.number c.len.ensures.sound c.requires.of c.if-place-ne1.false (ap is_some (sym c.in-Some.ensures))

pub returns-in-Some-clause-answer : goal.returns-in-Some-clause-answer
returns-in-Some-clause-answer c path =
    stored-where c.args.self.now c.args.store.now (reference_of c.args.reference.now) c.args.place path (λ x. takes_at path x (literal_of c.args.number)) c.put_number.result c.requires.kept
    (ap can_write (sym c.access.ensures) ∙ sym c.is_write.ensures ∙ c.if-not-is_write.false)
    (λ x place. takes-told c.args.self.now x path c.args.place c.args.number c.if-place-ne1.false place ∙ ap is_some (sym c.in-Some.ensures)) c.put_number.ensures.bytes

pub returns-in-Some-clause-put : goal.returns-in-Some-clause-put
returns-in-Some-clause-put c =
    number-stored c.args.self.now c.args.store.now c.put_number.new.self (reference_of c.args.reference.now) c.args.place c.args.number c.put_number.result c.len.ensures.sound c.requires.of c.if-place-ne1.false (ap is_some (sym c.in-Some.ensures))
    c.put_number.ensures.put

pub returns-in-Some-clause-places : goal.returns-in-Some-clause-places
returns-in-Some-clause-places c = places-stay c.args.store.now c.put_number.new.self c.put_number.ensures.layouts c.put_number.ensures.kept

pub returns-in-None-clause-answer : goal.returns-in-None-clause-answer
returns-in-None-clause-answer c path =
    not-stored c.args.self.now c.args.store.now (reference_of c.args.reference.now) c.args.place path (λ x. takes_at path x (literal_of c.args.number)) c.requires.kept
    (λ x place. takes-told c.args.self.now x path c.args.place c.args.number c.if-place-ne1.false place ∙ ap is_some (sym c.in-None.ensures))
