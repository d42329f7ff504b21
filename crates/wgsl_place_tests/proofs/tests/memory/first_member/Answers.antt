use Rattle.wgsl_values.specs.View.{reference_of}
use Rattle.wgsl_places.specs.Memory.{IsPlaceOf}
use Rattle.wgsl_place_tests.proofs.tests.memory.first_member.Goals as goal

pub returns : goal.returns
returns g c =
    let whole : IsPlaceOf c.args.places.now c.args.store.now (reference_of c.args.cell.now) c.expect-whole.result = rw c.expect-whole.ensures at c.place_in.ensures.of in
    rw c.expect.ensures at c.part.ensures.of c.args.store.now (reference_of c.args.cell.now) whole
