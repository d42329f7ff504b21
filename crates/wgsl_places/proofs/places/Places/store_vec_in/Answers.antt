use Rattle.std.proofs.Common.{◌∙◌, is_some, map, ap, sym}
use Rattle.wgsl_rules.specs.Access.{can_write}
use Rattle.wgsl_scalar.specs.Literals.{literal_of}
use Rattle.wgsl_values.specs.View.{reference_of}
use Rattle.wgsl_places.specs.Memory.{takes_vec_at}
use Rattle.wgsl_places.proofs.MemoryCalls.{not-stored, not-written, stored-where}
use Rattle.wgsl_places.proofs.MemoryPlaces.{places-stay}
use Rattle.wgsl_places.proofs.MemoryVectors.{row-below, row-stored, row-there, takes-vec-told}
use Rattle.wgsl_places.proofs.places.Places.store_vec_in.Goals as goal

pub returns-then-not-is_write-clause-answer : goal.returns-then-not-is_write-clause-answer
returns-then-not-is_write-clause-answer c path =
    not-written c.args.self.now c.args.store.now (reference_of c.args.reference.now) c.args.place path (λ x. takes_vec_at path x (map literal_of c.args.components.now)) c.requires.kept
    (ap can_write (sym c.access.ensures) ∙ sym c.is_write.ensures ∙ c.if-not-is_write.true)

pub put_row-requires-clause-there : goal.put_row-requires-clause-there
put_row-requires-clause-there c =
    row-there c.args.self.now c.args.store.now (reference_of c.args.reference.now) c.args.place c.in-Some.width c.args.components.now c.len.ensures.sound c.requires.of c.in-Some.ensures

pub put_row-requires-clause-below : goal.put_row-requires-clause-below
put_row-requires-clause-below c =
    row-below c.args.self.now c.args.store.now (reference_of c.args.reference.now) c.args.place c.in-Some.width c.args.components.now c.len.ensures.sound c.requires.of c.in-Some.ensures

pub returns-in-Some-clause-answer : goal.returns-in-Some-clause-answer
returns-in-Some-clause-answer c path =
    stored-where c.args.self.now c.args.store.now (reference_of c.args.reference.now) c.args.place path (λ x. takes_vec_at path x (map literal_of c.args.components.now)) c.put_row.result c.requires.kept
    (ap can_write (sym c.access.ensures) ∙ sym c.is_write.ensures ∙ c.if-not-is_write.false)
    (λ x place. takes-vec-told c.args.self.now x path c.args.place c.args.components.now place ∙ ap is_some (sym c.in-Some.ensures)) c.put_row.ensures.bytes

pub returns-in-Some-clause-put : goal.returns-in-Some-clause-put
returns-in-Some-clause-put c =
    row-stored c.args.self.now c.args.store.now c.put_row.new.store (reference_of c.args.reference.now) c.args.place c.in-Some.width c.args.components.now c.put_row.result c.len.ensures.sound c.requires.of c.in-Some.ensures c.put_row.ensures.put

pub returns-in-Some-clause-places : goal.returns-in-Some-clause-places
returns-in-Some-clause-places c = places-stay c.args.store.now c.put_row.new.store c.put_row.ensures.layouts c.put_row.ensures.kept

pub returns-in-None-clause-answer : goal.returns-in-None-clause-answer
returns-in-None-clause-answer c path =
    not-stored c.args.self.now c.args.store.now (reference_of c.args.reference.now) c.args.place path (λ x. takes_vec_at path x (map literal_of c.args.components.now)) c.requires.kept
    (λ x place. takes-vec-told c.args.self.now x path c.args.place c.args.components.now place ∙ ap is_some (sym c.in-None.ensures))
