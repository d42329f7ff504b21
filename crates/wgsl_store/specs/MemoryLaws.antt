-- The laws of memory. Each is proved of the definitions alone.
use Rattle.std.specs.Prelude.{◌≡◌, ℕ, List, [], ◌∷◌, ◌++◌, Ok, Some, IsSomeAnd, IsTrue, slice_get, ◌⊎◌, ◌≢◌, ◌↔◌}
use Rattle.wgsl_rules.specs.Access.{can_read, can_write}
use Rattle.wgsl_rules.specs.Layout.{HasLayout, Layout, layout_of}
use Rattle.wgsl_rules.specs.Values.{Step, Reference, Val, pointer, reference, type_of, IsStorable}
use Rattle.wgsl_rules.specs.Refusals.{Outcome, and_then}
use Rattle.wgsl_rules.specs.Paths.{value_at, path_of}
use Rattle.wgsl_rules.specs.Laws.{Apart}
use Rattle.wgsl_rules.specs.declared.syntax.AddressSpace.{AddressSpace}
use Rattle.wgsl_rules.specs.declared.syntax.AccessMode.{AccessMode}
use Rattle.wgsl_layout.specs.Buffers.{buffer}
use Rattle.wgsl_store.specs.Copies.{copied}
use Rattle.wgsl_store.specs.Memory.{held, IsKept, HoldsValue, IsContent, IsSound}
use Rattle.wgsl_layout.specs.Ranges.{Range, bytes_in, overwritten, view_range}
use Rattle.wgsl_store.specs.ReferenceCalls.{whole_of_new, read, deeper, written, load, loaded}

-- ---- references that are kept

-- a value is held where each reference and each pointer at a path of it is kept
abbrev pub AValueIsHeldByItsPaths : Type 0
AValueIsHeldByItsPaths = (cells : List Val) (v : Val)
    → HoldsValue cells v ↔ ((p : List ℕ) (r : Reference) → (value_at p v ≡ Some (reference r)) ⊎ (value_at p v ≡ Some (pointer r)) → IsKept cells r)

-- the cells `after` are sound, and each reference that was kept is kept
pub record StaysKept (cells after : List Val) : Type 0 where
  pub sound : IsSound after
  pub keeps : (r : Reference) → IsKept cells r → IsKept after r

-- so it is after a new cell, whose reference is kept
abbrev pub ANewCellKeepsReferences : Type 0
ANewCellKeepsReferences = (cells : List Val) (v : Val) (space : AddressSpace) (access : AccessMode) → IsSound cells → IsContent cells v
    → StaysKept cells (cells ++ v ∷ []) × IsKept (cells ++ v ∷ []) (whole_of_new cells v space access)

-- and after a write
abbrev pub AWriteKeepsReferences : Type 0
AWriteKeepsReferences = (cells after : List Val) (r : Reference) (w : Val) → IsSound cells → IsContent cells w → written cells r w ≡ Ok after → StaysKept cells after

-- the layout of what a reference names, which says where the parts of it stand in bytes
abbrev pub layout_held : List Val → Reference → Outcome Layout
layout_held cells r = and_then (held cells r) (λ v. Ok (layout_of v))

-- each reference that is kept names what has the layout that it had
abbrev pub KeepsLayouts : List Val → List Val → Type 0
KeepsLayouts cells after = (r : Reference) → IsKept cells r → layout_held after r ≡ layout_held cells r

-- so it is after a new cell
abbrev pub ANewCellKeepsLayouts : Type 0
ANewCellKeepsLayouts = (cells : List Val) (v : Val) → KeepsLayouts cells (cells ++ v ∷ [])

-- and after a write
abbrev pub AWriteKeepsLayouts : Type 0
AWriteKeepsLayouts = (cells after : List Val) (r : Reference) (w : Val) → IsSound cells → IsContent cells w → written cells r w ≡ Ok after → KeepsLayouts cells after

-- a reference one step deeper is kept
abbrev pub AStepDeeperIsKept : Type 0
AStepDeeperIsKept = (cells : List Val) (r q : Reference) (s : Step) → deeper (held cells) r s ≡ Ok q → IsKept cells q

-- what is read may be put into a cell
abbrev pub WhatIsReadMayBeStored : Type 0
WhatIsReadMayBeStored = (cells : List Val) (r : Reference) (v : Val) → IsSound cells → read (held cells) r ≡ Ok v → IsContent cells v

-- ---- writes

-- what is written is read
abbrev pub AWriteIsRead : Type 0
AWriteIsRead = (cells after : List Val) (r : Reference) (w : Val) → IsSound cells → IsStorable w → IsTrue (can_read r.access)
    → written cells r w ≡ Ok after → read (held after) r ≡ Ok w

-- what was read is written back where a write is allowed, and nothing changes
abbrev pub AReadIsWrittenBack : Type 0
AReadIsWrittenBack = (cells : List Val) (r : Reference) (v : Val) → IsTrue (can_write r.access) → read (held cells) r ≡ Ok v → written cells r v ≡ Ok cells

-- a write after another through the same reference does what it would do without the other
abbrev pub TheLastWriteStands : Type 0
TheLastWriteStands = (cells between : List Val) (r : Reference) (v w : Val) → IsSound cells → IsStorable v
    → written cells r v ≡ Ok between → written between r w ≡ written cells r w

-- references into two cells, or along views of which neither path begins the other
abbrev pub AreApart : List Val → Reference → Reference → Type 0
AreApart cells q r = (q.cell ≢ r.cell) ⊎ ((v : Val) (p s : List ℕ) → slice_get cells r.cell ≡ Some v → path_of q.view v ≡ Ok p → path_of r.view v ≡ Ok s → Apart p s)

-- writes apart commute, and the one does not change what the other reads
abbrev pub WritesApartCommute : Type 0
WritesApartCommute = (cells one : List Val) (q r : Reference) (v w : Val) → IsSound cells → IsKept cells r → IsStorable v → IsStorable w → AreApart cells q r
    → written cells q v ≡ Ok one
    → (and_then (written cells q v) (λ between. written between r w) ≡ and_then (written cells r w) (λ between. written between q v)) × (held one r ≡ held cells r)

-- ---- copies

-- the cell of the reference holds v, whose type has a layout, and the view leads to this range of its bytes
pub record NamesBytes (cells : List Val) (r : Reference) (v : Val) (range : Range) : Type 0 where
  pub there : slice_get cells r.cell ≡ Some v
  pub laid : HasLayout (type_of v)
  pub leads : view_range r.view (layout_of v) ≡ Some range

-- the bytes of the cell i are these, and each other cell is as before
pub record HasNewBytes (cells after : List Val) (i : ℕ) (b : List ℕ) : Type 0 where
  pub here : IsSomeAnd (slice_get after i) (λ v. buffer v ≡ b)
  pub elsewhere : (k : ℕ) → i ≢ k → slice_get after k ≡ slice_get cells k

-- a copy between parts of cells of bytes overwrites the range of the one with the bytes in that of the other, as they
-- were before, and no other byte
abbrev pub ACopyOverwritesItsRange : Type 0
ACopyOverwritesItsRange = (cells after : List Val) (q r : Reference) (u v : Val) (from to : Range) → IsSound cells → copied cells q r ≡ Ok after
    → NamesBytes cells q u from → NamesBytes cells r v to → HasNewBytes cells after r.cell (overwritten (buffer v) to.start (bytes_in (buffer u) from))

-- ---- loads

-- a reference is loaded by reading on while what is read is a reference
abbrev pub LoadingReadsOn : Type 0
LoadingReadsOn = (cells : List Val) (r : Reference) → IsKept cells r → load (held cells) r.ty r ≡ and_then (read (held cells) r) (loaded (held cells))
