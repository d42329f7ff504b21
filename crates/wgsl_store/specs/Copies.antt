-- Copies of parts over parts, in cells of bytes and in any (WGSL: assignment statement; internal layout of values).
use Rattle.std.specs.Prelude.{◌≡◌, Bool, true, false, ◌&&◌, List, Some, None, slice_get}
use Rattle.wgsl_rules.specs.Layout.{has_layout}
use Rattle.wgsl_rules.specs.Refusals.{Outcome, and_then}
use Rattle.wgsl_rules.specs.Values.{Reference, Val, type_of}
use Rattle.wgsl_layout.specs.Fitting.{FitsAt}
use Rattle.wgsl_store.specs.Memory.{held, put_cells}
use Rattle.wgsl_store.specs.ReferenceCalls.{read, written}
use Rattle.wgsl_layout.specs.declared.in_place.InPlace.{InPlace}
use Rattle.wgsl_layout.specs.declared.in_place.InPlace.TheVariants as in_place
pub use Rattle.wgsl_layout.specs.Copies.{IsCopied}

-- ---- which cells are bytes

-- those of a value whose type has a layout
abbrev pub is_bytes : Val → Bool
is_bytes v = has_layout (type_of v)

-- the reference names a part of such a cell
abbrev pub in_bytes : List Val → Reference → Bool
in_bytes cells r = elim (slice_get cells r.cell) [ None ↦ false | Some v ↦ is_bytes v ]

-- both references do
abbrev pub are_in_bytes : List Val → Reference → Reference → Bool
are_in_bytes cells q r = in_bytes cells q && in_bytes cells r

-- ---- a copy

-- what one reference names, written to what another does: refused as a read of the first, then as a write to the
-- second
abbrev pub copied : List Val → Reference → Reference → Outcome (List Val)
copied cells from to = and_then (read (held cells) from) (written cells to)

-- ---- a copy of bytes alone

-- w is put in the place that a reference names, where both cells are bytes and it fits there; else nothing changes
abbrev pub AreCopied : InPlace → Bool → List Val → List Val → Reference → Val → Type 0
AreCopied in_place.Done both cells after r w = (both ≡ true) × FitsAt w (held cells r) × (after ≡ put_cells cells r w)
AreCopied in_place.Misfit both cells after r w = (both ≡ true) × (¬ FitsAt w (held cells r)) × (after ≡ cells)
AreCopied in_place.NotBytes both cells after r w = (both ≡ false) × (after ≡ cells)
