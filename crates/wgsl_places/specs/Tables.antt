-- The table of a type as the code holds it.
use Rattle.std.specs.Prelude.{◌≡◌, ◌<◌, ◌^◌, length}
use Rattle.wgsl_rules.specs.Layout.{HasLayout}
use Rattle.wgsl_rules.specs.Types.{Ty}
use Rattle.wgsl_rules.specs.View.{type_view}
use Rattle.wgsl_nodes.specs.Canonical.{table}
use Rattle.wgsl_nodes.specs.Nodes.{IsNodeOf}
use Rattle.wgsl_places.specs.declared.places.Places.TheInside.{Inside}

abbrev pub type_inside : Inside → Ty
type_inside p = type_view p.ty

-- the type has a layout, and the records are the table of the type
pub record HoldsTable (p : Inside) : Type 0 where
  pub laid : HasLayout (type_view p.ty)
  pub table_is : p.nodes.items ≡ table (type_view p.ty)
  pub few : length (table (type_view p.ty)) < 2 ^ 32
  pub root : IsNodeOf (table (type_view p.ty)) 0 (type_view p.ty)
