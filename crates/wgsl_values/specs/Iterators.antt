-- What is left in the iterators over values.
use Rattle.std.specs.Prelude.{List, [], ◌∷◌, ◌++◌, map}
use Rattle.std.specs.Vec.Iter.{into_iter_items}
use Rattle.wgsl_rules.specs.Values.{Val, Vals, no_vals, val}
use Rattle.wgsl_values.specs.Parts.{components}
use Rattle.wgsl_values.specs.View.{value_of}
use Rattle.wgsl_values.specs.declared.iter.Items.{Items}
use Rattle.wgsl_values.specs.declared.iter.IntoItems.{IntoItems}
use Rattle.wgsl_values.specs.declared.iter.MatItems.{MatItems}

abbrev pub listed : Vals → List Val
listed no_vals = []
listed (val v vs) = v ∷ listed vs

-- the components of the columns, column by column
abbrev pub all_components : List Val → List Val
all_components [] = []
all_components (column ∷ columns) = listed (components column) ++ all_components columns

-- the values that are left, the next one first
abbrev pub items_left : Items → List Val
items_left items = map value_of items.rest.now

abbrev pub into_items_left : IntoItems → List Val
into_items_left items = map value_of (into_iter_items items.rest)

abbrev pub mat_items_left : MatItems → List Val
mat_items_left items = items_left items.column ++ all_components (items_left items.columns)
