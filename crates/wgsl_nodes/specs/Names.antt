-- Tables that differ in the names of members alone.
use Rattle.std.specs.Prelude.{◌≡◌, ℕ, List, option_map, slice_get}
use Rattle.wgsl_rules.specs.Types.{Ty}
use Rattle.wgsl_nodes.specs.Nodes.{IsNodeOf}
use Rattle.wgsl_nodes.specs.Tables.{IsTable}
use Rattle.wgsl_nodes.specs.declared.nodes.Node.{Node}

abbrev pub unnamed : Node → Node
unnamed r = record r { name_start = 0; name_end = 0 }

-- each record is the same but for its name
abbrev pub AreRenamed : List Node → List Node → Type 0
AreRenamed before after = (k : ℕ) → option_map unnamed (slice_get after k) ≡ option_map unnamed (slice_get before k)

-- a table with other names is the layout of the same type
abbrev pub NamesAreNoPart : Type 0
NamesAreNoPart = (nodes now : List Node) (number : ℕ) (t : Ty) → AreRenamed nodes now → IsNodeOf nodes number t → IsNodeOf now number t

-- a table with other names is a table
abbrev pub NamesAreNoPartOfTables : Type 0
NamesAreNoPartOfTables = (nodes now : List Node) → AreRenamed nodes now → IsTable nodes → IsTable now
