-- The memory of a shader as bytes: a cell is a string of bytes, where its type has a layout, and a reference
-- names a range of them (WGSL: memory; memory views; internal layout of values).
use Rattle.std.specs.Prelude.{◌≡◌, ℕ, List, map, length, slice_get, Option, Some, None, option_and_then, Ok, Err, MatchResult, if◌then◌else◌}
use Rattle.wgsl_rules.specs.Same.{same}
use Rattle.wgsl_rules.specs.Types.{Ty}
use Rattle.wgsl_rules.specs.Values.{Reference, Step, Val, type_of}
use Rattle.wgsl_rules.specs.Refusals.{not_read, Outcome, and_then}
use Rattle.wgsl_rules.specs.Paths.{or_refused, viewed, put_viewed}
use Rattle.wgsl_rules.specs.Layout.{has_layout, amount, count_in, Layout, layout, type_in}
use Rattle.wgsl_layout.specs.Buffers.{buffer, Lays, decode}
use Rattle.wgsl_layout.specs.Ranges.{Range, view_range, bytes_in, overwritten}
use Rattle.wgsl_store.specs.Memory.{at_position}
use Rattle.wgsl_session.specs.Calls.{State, Call, Answer, Memory, step, IsRunOf}

-- the bytes of a value of a type that has a layout, or a value of another type
pub data Cell : Type 0 where
  bytes : Ty → List ℕ → Cell
  tree : Val → Cell

abbrev pub cell_of : Val → Cell
cell_of v = if has_layout (type_of v) then bytes (type_of v) (buffer v) else tree v

-- the layout of the value of the type in these bytes
abbrev pub layout_in : Ty → List ℕ → Layout
layout_in t b = layout (amount (count_in (length b) t)) t

-- ---- what references hold

-- the view of the reference leads to a range, of the type of the reference, whose bytes lay out the value
pub record NamesIn (t : Ty) (b : List ℕ) (r : Reference) (v : Val) : Type 0 where
  pub range : Range
  pub leads : view_range r.view (layout_in t b) ≡ Some range
  pub typed : type_in range.layout ≡ r.ty
  pub laid : Lays (bytes_in b range) r.ty v

abbrev pub Names : Cell → Reference → Val → Type 0
Names (bytes t b) r v = NamesIn t b r v
Names (tree x) r v = (viewed r.view x ≡ Ok v) × (type_of v ≡ r.ty)

abbrev pub IsNamed : Option Cell → Reference → Val → Type 0
IsNamed None r v = ⊥
IsNamed (Some c) r v = Names c r v

-- `h` says what references hold: each the value that it names, or none where it names none
abbrev pub Holds : List Cell → (Reference → Outcome Val) → Type 0
Holds cells h = (r : Reference) → MatchResult (h r) (IsNamed (slice_get cells r.cell) r) (λ e. (v : Val) → ¬ IsNamed (slice_get cells r.cell) r v)

-- ---- a put

-- w in the place of what a view leads to: its bytes in the range, or itself in the tree
abbrev pub put_in : List Step → Val → Cell → Cell
put_in steps w (bytes t b) = elim (view_range steps (layout_in t b)) [ None ↦ bytes t b | Some r ↦ bytes t (overwritten b r.start (buffer w)) ]
put_in steps w (tree x) = tree (put_viewed steps w x)

abbrev pub put_flat : List Cell → Reference → Val → List Cell
put_flat cells r w = at_position r.cell (put_in r.view w) cells

-- ---- calls by handles

-- the memory of bytes, in which each reference r holds `h r`
abbrev pub of_bytes : List Cell → (Reference → Outcome Val) → Memory Cell
of_bytes cells h = record { cell_of = cell_of; holds = h; put = put_flat cells }

-- a call does its step; or memory could not be had, which is no answer and changes nothing
abbrev pub IsFlatStep : State Cell → Call → State Cell → Option Answer → Type 0
IsFlatStep before call after None = after ≡ before
IsFlatStep before call after (Some a) =
    (h : Reference → Outcome Val) × Holds before.cells h × (step (of_bytes before.cells h) before call ≡ record { state = after; answer = a })

-- one step for each call, in order, with one answer each
abbrev pub IsFlatRun : State Cell → List Call → State Cell → List (Option Answer) → Type 0
IsFlatRun = IsRunOf IsFlatStep

-- the memory of bytes that a memory of values stands for
abbrev pub flat_of : State Val → State Cell
flat_of s = record { cells = map cell_of s.cells; handles = s.handles }

-- ---- what references hold, by decoding

-- what is decoded of a range, where it is of the type
abbrev pub decoded_at : Ty → List ℕ → Range → Option Val
decoded_at t b q = if same (type_in q.layout) t then decode (bytes_in b q) t else None

-- the value, where it is of the type
abbrev pub of_type : Ty → Val → Outcome Val
of_type t v = if same (type_of v) t then Ok v else Err not_read

abbrev pub found_in : Cell → Reference → Outcome Val
found_in (bytes t b) r = or_refused (option_and_then (decoded_at r.ty b) (view_range r.view (layout_in t b))) not_read
found_in (tree x) r = and_then (viewed r.view x) (of_type r.ty)

abbrev pub found : List Cell → Reference → Outcome Val
found cells r = and_then (or_refused (slice_get cells r.cell) not_read) (λ c. found_in c r)
