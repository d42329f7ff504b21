-- Tables of names.
use Rattle.std.specs.Prelude.{ℕ, List, Option, ◌%◌, length, take, option_and_then, slice_get}
use Rattle.std.specs.BTreeMap.{get_by_text}
use Rattle.std.specs.Hash.FoldHasher.{initial, write, finish}
use Rattle.wgsl_source.specs.declared.name_table.NameTable.{NameTable}

-- which of so many maps a name is in: its first 64 bytes say it
abbrev pub map_of : List ℕ → ℕ → ℕ
map_of name maps = finish (write initial (take 64 name)) % maps

-- the declaration that has the name, if one has it
abbrev pub named_in : NameTable → List ℕ → Option ℕ
named_in t name = option_and_then (λ m. get_by_text m name) (slice_get t.maps.items (map_of name (length t.maps.items)))
