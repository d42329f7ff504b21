-- Cells and writes of the values that bytes lay out (WGSL: internal layout of values; assignment statement).
use Rattle.std.specs.Prelude.{◌≡◌, Bool, true, false, List, [], ◌∷◌, ◌++◌, Option, Some, None, Ok, if◌then◌else◌}
use Rattle.wgsl_rules.specs.Refusals.{Outcome, and_then}
use Rattle.wgsl_rules.specs.Values.{Reference, Val}
use Rattle.wgsl_rules.specs.declared.syntax.AddressSpace.{AddressSpace}
use Rattle.wgsl_rules.specs.declared.syntax.AccessMode.{AccessMode}
use Rattle.wgsl_store.specs.ReferenceCalls.{whole_of_new, written}
pub use Rattle.wgsl_layout.specs.LaidOut.{CameTo}

-- a new last cell with the value that bytes lay out, and a reference to the whole of it; nothing where they lay out none
abbrev pub IsNewOf : Option Val → AddressSpace → AccessMode → List Val → List Val → Option Reference → Type 0
IsNewOf None space access before after made = (made ≡ None) × (after ≡ before)
IsNewOf (Some v) space access before after made = (made ≡ Some (whole_of_new before v space access)) × (after ≡ before ++ v ∷ [])

-- the same of the cells alone, by a call that says whether there is a new cell
abbrev pub IsAdded : Option Val → List Val → List Val → Bool → Type 0
IsAdded None before after added = (added ≡ false) × (after ≡ before)
IsAdded (Some v) before after added = (added ≡ true) × (after ≡ before ++ v ∷ [])

-- the cells after a write of the value that bytes lay out, which is refused as any write; none where they lay out none
abbrev pub written_of : List Val → Reference → Option Val → Outcome (Option (List Val))
written_of cells r None = Ok None
written_of cells r (Some v) = and_then (written cells r v) (λ after. Ok (Some after))

-- the cells that are left by a call which says whether there was a value to write
abbrev pub left_by : List Val → Bool → Option (List Val)
left_by cells wrote = if wrote then Some cells else None
