use Rattle.std.proofs.Common.{length, arith}
use Rattle.wgsl_source.specs.NameTables.{map_of}
use Rattle.wgsl_source.proofs.name_table.NameTable.for_names.Goals as goal

pub returns-clause-none : goal.returns-clause-none
returns-clause-none c name = c.loop.invariant.1 name (map_of name (length c.loop.maps.items))

pub returns-clause-room : goal.returns-clause-room
returns-clause-room c =
    let counted = c.loop.invariant.0 in
    let ended = c.loop.auto.counter-end in
    let over = c.loop-test.false in
    λ _. omega arith
