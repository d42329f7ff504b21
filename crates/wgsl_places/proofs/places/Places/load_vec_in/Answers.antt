use Rattle.std.proofs.Common.{◌∙◌, ap, sym, option_map}
use Rattle.wgsl_rules.specs.Access.{can_read}
use Rattle.wgsl_values.specs.View.{reference_of}
use Rattle.wgsl_places.specs.Components.{components_of}
use Rattle.wgsl_places.specs.Laws.{components_in}
use Rattle.wgsl_places.proofs.MemoryCalls.{none-loaded, not-read, some-loaded}
use Rattle.wgsl_places.proofs.MemoryVectors.{loaded-vec-is}
use Rattle.wgsl_places.proofs.places.Places.load_vec_in.Goals as goal

pub returns-in_err-bytes_from : goal.returns-in_err-bytes_from
returns-in_err-bytes_from c path =
    rw c.from_residual.ensures
    (none-loaded components_in c.args.self.now c.args.store.now (reference_of c.args.reference.now) c.args.place path c.requires (ap can_read (sym c.access.ensures) ∙ sym c.is_read.ensures ∙ c.if-is_read.true) c.in_err-bytes_from.ensures.bytes)

pub returns-in_ok-bytes_from : goal.returns-in_ok-bytes_from
returns-in_ok-bytes_from c path =
    some-loaded components_in c.args.self.now c.args.store.now (reference_of c.args.reference.now) c.args.place path c.in_ok-bytes_from.field-0.now (option_map components_of c.load_vec.result) c.in_ok-bytes_from.ensures.sound c.requires
    (ap can_read (sym c.access.ensures) ∙ sym c.is_read.ensures ∙ c.if-is_read.true) c.in_ok-bytes_from.ensures.bytes
    (λ x q s h there place begins. c.load_vec.ensures q place ∙ loaded-vec-is c.args.self.now x path c.args.place c.in_ok-bytes_from.field-0.now q s h there place begins)

pub returns-else-is_read : goal.returns-else-is_read
returns-else-is_read c path =
    not-read components_in c.args.self.now c.args.store.now (reference_of c.args.reference.now) c.args.place path c.requires (ap can_read (sym c.access.ensures) ∙ sym c.is_read.ensures ∙ c.if-is_read.false)
