-- Cells that hold their values as bytes, and parts of them (WGSL: memory locations; internal layout of values).
use Rattle.std.specs.Prelude.{◌≡◌, List, Some, length}
use Rattle.std.specs.Arc.{arc_value}
use Rattle.wgsl_rules.specs.Layout.{HasLayout, layout, layout_of, runtime_count}
use Rattle.wgsl_rules.specs.Values.{Step, Val, type_of, IsStorable}
use Rattle.wgsl_rules.specs.Types.{Ty}
use Rattle.wgsl_layout.specs.Buffers.{buffer, decoded}
use Rattle.wgsl_layout.specs.Located.{IsLocated, part_range, shape_ty}
use Rattle.wgsl_layout.specs.Ranges.{view_range}
use Rattle.wgsl_layout.specs.declared.flat.FlatCell.TheInside.{Inside}
use Rattle.wgsl_layout.specs.declared.flat.Owner.{Owner}
use Rattle.wgsl_layout.specs.declared.flat.Owner.TheVariants as owners
use Rattle.wgsl_layout.specs.declared.flat.FlatPart.{FlatPart}
use Rattle.wgsl_layout.specs.declared.located.Located.{Located}

-- ---- cells

-- the type of which a cell has the layout, alone or with others
abbrev pub owned_type : Owner → Ty
owned_type (owners.Own l) = l
owned_type (owners.Shared l) = arc_value l

-- the value that the bytes lay out
abbrev pub flat_value : Inside → Val
flat_value c = decoded c.bytes.items 0 (layout c.count (owned_type c.owner))

-- the cell holds the value, which may be stored: as its buffer, with the layout of its type and the count of its
-- elements
pub record Holds (c : Inside) (v : Val) : Type 0 where
  pub typed : type_of v ≡ owned_type c.owner
  pub laid : HasLayout (owned_type c.owner)
  pub counted : c.count ≡ runtime_count v
  pub storable : IsStorable v
  pub bytes : c.bytes.items ≡ buffer v

-- a cell holds the value that its bytes lay out
abbrev pub IsFlatCell : Inside → Type 0
IsFlatCell c = Holds c (flat_value c)

-- where the part stands that the steps lead to in the value
pub record IsPartAt (v : Val) (steps : List Step) (l : Located) : Type 0 where
  pub there : IsLocated l
  pub found : view_range steps (layout_of v) ≡ Some (part_range l)
  pub whole : l.len ≡ length (buffer v)

-- ---- parts

-- the value that the bytes of the part lay out
abbrev pub part_value : FlatPart → Val
part_value p = decoded p.bytes.now p.located.start (layout p.located.count (shape_ty p.located.shape))

-- the part is located in these bytes
pub record IsFlatPart (p : FlatPart) : Type 0 where
  pub there : IsLocated p.located
  pub whole : p.located.len ≡ length p.bytes.now
