use Rattle.std.proofs.Common.{◌≡◌, ◌<◌, ℕ, List, length, take}
use Rattle.wgsl_source.specs.Declarations.{number_named}
use Rattle.wgsl_source.specs.Faults.{KeepsFaults}
use Rattle.wgsl_source.specs.NameTables.{named_in}
use Rattle.wgsl_source.proofs.order.names_of.Given as goal

abbrev pub invariant-loop-number : goal.invariant-loop-number
invariant-loop-number l =
    ((name : List ℕ) → named_in l.names name ≡ number_named l.cursor (take l.number l.module.declarations.items) name)
    × (0 < length l.module.declarations.items → 0 < length l.names.maps.items)
    × KeepsFaults l.fn.faults.faults.items l.faults.faults.items
