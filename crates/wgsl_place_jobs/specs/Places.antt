-- Places in what references name that a store keeps.
use Rattle.std.specs.Prelude.{List}
use Rattle.wgsl_rules.specs.Types.{Ty}
use Rattle.wgsl_rules.specs.Values.{Reference, Val}
use Rattle.wgsl_store.specs.Memory.{IsKept}
use Rattle.wgsl_places.specs.Memory.{IsPlaceOf}
use Rattle.wgsl_places.specs.declared.place.Place.{Place}

-- the reference is kept, and the place is that of a part of what it names
abbrev pub KeepsPlace : Ty → List Val → Reference → Place → Type 0
KeepsPlace t cells r p = IsKept cells r × IsPlaceOf t cells r p
