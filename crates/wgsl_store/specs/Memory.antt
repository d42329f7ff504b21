-- The memory of a shader: cells, each with a value, what references to parts of them hold, and when such a
-- memory is sound (WGSL: memory views; memory locations).
use Rattle.std.specs.Prelude.{◌≡◌, ℕ, zero, suc, List, [], ◌∷◌, ◌++◌, slice_get, IsOkAnd}
use Rattle.wgsl_rules.specs.Values.{Step, Reference, Val, record_of, array_of, vector, matrix, pointer, reference, Vals, no_vals, val, type_of, IsStorable}
use Rattle.wgsl_rules.specs.Refusals.{not_read, Outcome, and_then}
use Rattle.wgsl_rules.specs.Paths.{or_refused, viewed, put_viewed}

-- ---- what references hold

-- what a view into a cell leads to; a cell that is not there cannot be read
abbrev pub held_at : List Val → ℕ → List Step → Outcome Val
held_at cells cell steps = and_then (or_refused (slice_get cells cell) not_read) (viewed steps)

-- the value that a reference names
abbrev pub held : List Val → Reference → Outcome Val
held cells r = held_at cells r.cell r.view

-- the cell of the reference is there, and its view leads to a value of its type
abbrev pub IsKept : List Val → Reference → Type 0
IsKept cells r = IsOkAnd (held cells r) (λ v. type_of v ≡ r.ty)

abbrev pub AllKept : List Val → List Reference → Type 0
AllKept cells [] = Unit {0}
AllKept cells (r ∷ rs) = IsKept cells r × AllKept cells rs

-- ---- what cells hold

-- the references and pointers at the paths of a value. None of them is followed
abbrev mutual
  pub references : Val → List Reference
  references (pointer r) = r ∷ []
  references (reference r) = r ∷ []
  references (record_of t vs) = references_in vs
  references (array_of runtime vs) = references_in vs
  references (vector vs) = references_in vs
  references (matrix vs) = references_in vs
  references v = []

  pub references_in : Vals → List Reference
  references_in no_vals = []
  references_in (val v vs) = references v ++ references_in vs

-- each reference and pointer in the value is kept
abbrev pub HoldsValue : List Val → Val → Type 0
HoldsValue cells v = AllKept cells (references v)

-- what a cell may hold: a value that may be stored, whose references and pointers are kept
abbrev pub IsContent : List Val → Val → Type 0
IsContent cells v = IsStorable v × HoldsValue cells v

abbrev pub AreContents : List Val → List Val → Type 0
AreContents cells [] = Unit {0}
AreContents cells (v ∷ vs) = IsContent cells v × AreContents cells vs

-- each cell holds what it may hold
abbrev pub IsSound : List Val → Type 0
IsSound cells = AreContents cells cells

-- ---- a put

-- the list with f of the item at a position
abbrev pub at_position : {C : Type 0} → ℕ → (C → C) → List C → List C
at_position i f [] = []
at_position zero f (c ∷ cs) = f c ∷ cs
at_position (suc i) f (c ∷ cs) = c ∷ at_position i f cs

-- the cells with w in the place that a reference names
abbrev pub put_cells : List Val → Reference → Val → List Val
put_cells cells r w = at_position r.cell (put_viewed r.view w) cells
