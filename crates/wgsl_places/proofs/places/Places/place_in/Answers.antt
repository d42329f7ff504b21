use Rattle.std.proofs.Common.{refl}
use Rattle.wgsl_values.specs.View.{reference_of, steps_of}
use Rattle.wgsl_places.proofs.MemoryCalls.{none-lent, place-of, some-lent}
use Rattle.wgsl_places.proofs.places.Places.place_in.Goals as goal

pub returns-in_err-bytes-clause-place : goal.returns-in_err-bytes-clause-place
returns-in_err-bytes-clause-place c =
    rw c.from_residual.ensures (none-lent c.args.self.now c.args.store.now (reference_of c.args.reference.now) (steps_of c.args.view.now) c.requires.kept c.in_err-bytes.ensures.bytes)

pub returns-clause-place : goal.returns-clause-place
returns-clause-place c =
    rw c.ok.ensures.value
    (some-lent c.args.self.now c.args.store.now (reference_of c.args.reference.now) (steps_of c.args.view.now) c.in_ok-bytes.bytes.now _ c.place.result c.in_ok-bytes.ensures.sound c.requires.kept c.requires.typed refl c.in_ok-bytes.ensures.bytes
    c.place.ensures)

pub returns-clause-of : goal.returns-clause-of
returns-clause-of c =
    place-of c.args.self.now c.args.store.now (reference_of c.args.reference.now) (steps_of c.args.view.now) c.ok.result c.in_ok-bytes.ensures.sound c.requires.kept
    (rw c.ok.ensures.value
    (some-lent c.args.self.now c.args.store.now (reference_of c.args.reference.now) (steps_of c.args.view.now) c.in_ok-bytes.bytes.now _ c.place.result c.in_ok-bytes.ensures.sound c.requires.kept c.requires.typed refl c.in_ok-bytes.ensures.bytes
    c.place.ensures))
