use Rattle.std.proofs.Common.{◌≡◌, Some}
use Rattle.wgsl_rules.specs.Values.{type_of}
use Rattle.wgsl_scalar.specs.Literals.{literal_of}
use Rattle.wgsl_layout.specs.Atomics.{number_in}
use Rattle.wgsl_layout.specs.FlatCells.{part_value}
use Rattle.wgsl_layout_tests.proofs.Numbers.{is-atomic}
use Rattle.wgsl_layout_tests.proofs.tests.without_memory.put_atomic_number.Goals as goal

pub put_atomic_number-requires-clause-there : goal.put_atomic_number-requires-clause-there
put_atomic_number-requires-clause-there g c =
    let x = part_value c.part_at-part.result in
    let own = literal_of c.expect-own.result in
    let told : Some own ≡ number_in x = rw c.expect-own.ensures at c.atomic_number.ensures in
    rw c.part_at-part.ensures.there (is-atomic x own (type_of (literal_of c.args.number)) told c.assert_one_type.ensures)
