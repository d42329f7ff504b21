use Rattle.std.proofs.Common.{◌≡◌, ℕ, List, None, length}
use Rattle.std.specs.BTreeMap.{get_by_text}
use Rattle.wgsl_source.proofs.NameTableLemmas.{found_at}
use Rattle.wgsl_source.proofs.name_table.NameTable.for_names.Given as goal

abbrev pub invariant-loop : goal.invariant-loop
invariant-loop l =
    (length l.maps.items ≡ l.counter) × ((name : List ℕ) (at : ℕ) → found_at get_by_text l.maps.items name at ≡ None)
