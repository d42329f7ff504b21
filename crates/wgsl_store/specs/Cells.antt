-- The cells of a store and the parts of them that are lent, each as bytes or as a tree (WGSL: memory locations;
-- memory views).
use Rattle.std.specs.Prelude.{◌≡◌, false, List, map}
use Rattle.std.specs.List.{All}
use Rattle.wgsl_rules.specs.Layout.{has_layout}
use Rattle.wgsl_rules.specs.Values.{Val, type_of}
use Rattle.wgsl_layout.specs.FlatCells as flat
use Rattle.wgsl_layout.specs.FlatCells.{IsFlatPart}
use Rattle.wgsl_store.specs.Memory.{IsSound}
use Rattle.wgsl_store.specs.declared.cell.Cell.{Cell}
use Rattle.wgsl_store.specs.declared.cell.Cell.TheVariants as cell
use Rattle.wgsl_store.specs.declared.cell.Part.{Part}
use Rattle.wgsl_store.specs.declared.cell.Part.TheVariants as part
use Rattle.wgsl_values.specs.View.{value_of}
pub use Rattle.wgsl_layout.specs.Fitting.{LeadsIn}

-- ---- cells

-- the value that a cell holds. Bytes are the buffer of the value, which has a layout: each cell of bytes says so itself
abbrev pub cell_value : Cell → Val
cell_value (cell.Flat v) = v
cell_value (cell.Tree t) = value_of t

-- only a value of a type that has no layout is held as a tree
abbrev pub IsCell : Cell → Type 0
IsCell (cell.Flat v) = Unit {0}
IsCell (cell.Tree t) = has_layout (type_of (value_of t)) ≡ false

-- the cells of a store: their values are sound together
pub record AreCells (cells : List Cell) : Type 0 where
  pub sound : IsSound (map cell_value cells)
  pub forms : All IsCell cells

-- ---- parts

-- the value that a part holds
abbrev pub part_value : Part → Val
part_value (part.Flat p) = flat.part_value p
part_value (part.Tree t) = value_of t.now

-- a part of a cell of bytes is located in them
abbrev pub IsPart : Part → Type 0
IsPart (part.Flat p) = IsFlatPart p
IsPart (part.Tree t) = Unit {0}
