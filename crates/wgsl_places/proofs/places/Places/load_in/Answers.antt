use Rattle.std.proofs.Common.{◌∙◌, ap, sym, option_map}
use Rattle.wgsl_rules.specs.Access.{can_read}
use Rattle.wgsl_scalar.specs.Literals.{literal_of}
use Rattle.wgsl_values.specs.View.{reference_of}
use Rattle.wgsl_places.specs.Laws.{number_in}
use Rattle.wgsl_places.proofs.MemoryCalls.{none-loaded, not-read, some-loaded}
use Rattle.wgsl_places.proofs.MemoryPlaces.{loaded-is}
use Rattle.wgsl_places.proofs.places.Places.load_in.Goals as goal

pub returns-then-not-is_read : goal.returns-then-not-is_read
returns-then-not-is_read c path =
    not-read number_in c.args.self.now c.args.store.now (reference_of c.args.reference.now) c.args.place path c.requires (ap can_read (sym c.access.ensures) ∙ sym c.is_read.ensures ∙ c.if-not-is_read.true)

pub returns-in_err-bytes_from : goal.returns-in_err-bytes_from
returns-in_err-bytes_from c path =
    rw c.from_residual.ensures
    (none-loaded number_in c.args.self.now c.args.store.now (reference_of c.args.reference.now) c.args.place path c.requires (ap can_read (sym c.access.ensures) ∙ sym c.is_read.ensures ∙ c.if-not-is_read.false) c.in_err-bytes_from.ensures.bytes)

pub returns : goal.returns
returns c path =
    some-loaded number_in c.args.self.now c.args.store.now (reference_of c.args.reference.now) c.args.place path c.in_ok-bytes_from.field-0.now (option_map literal_of c.load.result) c.in_ok-bytes_from.ensures.sound c.requires
    (ap can_read (sym c.access.ensures) ∙ sym c.is_read.ensures ∙ c.if-not-is_read.false) c.in_ok-bytes_from.ensures.bytes
    (λ x q s h there place begins. c.load.ensures q place ∙ loaded-is c.args.self.now x path c.args.place c.in_ok-bytes_from.field-0.now q s h there place begins)
