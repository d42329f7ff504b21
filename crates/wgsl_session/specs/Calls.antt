-- Calls on a shader's memory by handles: what each answers and changes, once for any memory, and lists of
-- them (WGSL: memory views; load rule; assignment statement).
use Rattle.std.specs.Prelude.{◌≡◌, ℕ, Bool, false, List, [], ◌∷◌, ◌++◌, length, slice_get, Option, Some, None, Ok, Err, IsTrue}
use Rattle.wgsl_rules.specs.Values as values
use Rattle.wgsl_rules.specs.Values.{Reference, Val, reference, IsStorable}
use Rattle.wgsl_rules.specs.Refusals.{Refusal, not_write, not_read_write, Outcome}
use Rattle.wgsl_rules.specs.declared.syntax.AddressSpace.{AddressSpace}
use Rattle.wgsl_rules.specs.declared.syntax.AccessMode.{AccessMode}
use Rattle.wgsl_store.specs.Copies.{are_in_bytes}
use Rattle.wgsl_store.specs.Memory.{held, AllKept, references, IsSound, put_cells}
use Rattle.wgsl_store.specs.ReferenceCalls.{whole_of_new, read, deeper, old_value, load}

-- ---- calls and answers. A handle is a number, and names a reference

pub data Call : Type 0 where
  -- a cell with the value
  new : Val → AddressSpace → AccessMode → Call
  -- a cell with the reference of a handle
  new_of : ℕ → AddressSpace → AccessMode → Call
  member : ℕ → List ℕ → Call
  index : ℕ → ℕ → Call
  read_of : ℕ → Call
  write : ℕ → Val → Call
  -- as a write, and answers the old value
  replace : ℕ → Val → Call
  -- from what the one handle names to what the other does
  copy : ℕ → ℕ → Call
  load_of : ℕ → Call

pub data Answer : Type 0 where
  handle : ℕ → Answer
  value : Val → Answer
  done : Answer
  no_handle : Answer
  refused : Refusal → Answer

-- a value of the caller's: it may be stored, and holds no reference or pointer
abbrev pub IsPlain : Val → Type 0
IsPlain v = IsStorable v × (references v ≡ [])

-- the condition of a call
abbrev pub IsSoundCall : Call → Type 0
IsSoundCall (new v space access) = IsPlain v
IsSoundCall (write h v) = IsPlain v
IsSoundCall (replace h v) = IsPlain v
IsSoundCall call = Unit {0}

abbrev pub AreSoundCalls : List Call → Type 0
AreSoundCalls [] = Unit {0}
AreSoundCalls (call ∷ calls) = IsSoundCall call × AreSoundCalls calls

-- ---- memories

-- the cells, and the reference of each handle
pub record State (C : Type 0) : Type 0 where
  pub cells : List C
  pub handles : List Reference

-- what a call leaves and answers
pub record After (C : Type 0) : Type 0 where
  pub state : State C
  pub answer : Answer

-- a memory, as calls see it: the cell of a value, what each reference holds, and the cells after a put
pub record Memory (C : Type 0) : Type 0 where
  pub cell_of : Val → C
  pub holds : Reference → Outcome Val
  pub put : Reference → Val → List C

-- ---- what a call leaves

-- a refusal changes nothing
abbrev pub unchanged : {C : Type 0} → State C → Answer → After C
unchanged s a = record { state = s; answer = a }

abbrev pub changed : {C : Type 0} → State C → List C → Answer → After C
changed s cells a = record { state = record { cells = cells; handles = s.handles }; answer = a }

-- a new handle, of the reference
abbrev pub with_handle : {C : Type 0} → State C → List C → Reference → After C
with_handle s cells r = record { state = record { cells = cells; handles = s.handles ++ r ∷ [] }; answer = handle (length s.handles) }

-- a new last cell with the value, and a handle of the whole of it
abbrev pub with_cell : {C : Type 0} → Memory C → State C → Val → AddressSpace → AccessMode → After C
with_cell m s v space access = with_handle s (s.cells ++ m.cell_of v ∷ []) (whole_of_new s.cells v space access)

-- with the reference of a handle, which has to be there
abbrev pub at_handle : {C : Type 0} → State C → ℕ → (Reference → After C) → After C
at_handle s h f = elim (slice_get s.handles h) [ None ↦ unchanged s no_handle | Some r ↦ f r ]

-- with an outcome, if it is no refusal
abbrev pub or_unchanged : {A C : Type 0} → State C → Outcome A → (A → After C) → After C
or_unchanged s (Ok x) f = f x
or_unchanged s (Err e) f = unchanged s (refused e)

-- w in the place of what a reference names, if it may be written there; the answer may name the value that was
-- there. The refusal is that of a reference which may not write
abbrev pub with_put : {C : Type 0} → Memory C → State C → Refusal → (Val → Answer) → Reference → Val → After C
with_put m s refusal answer r w = or_unchanged s (old_value refusal m.holds r w) (λ old. changed s (m.put r w) (answer old))

-- ---- the table of calls

abbrev pub step : {C : Type 0} → Memory C → State C → Call → After C
step m s (new v space access) = with_cell m s v space access
step m s (new_of h space access) = at_handle s h (λ r. with_cell m s (reference r) space access)
step m s (member h n) = at_handle s h (λ r. or_unchanged s (deeper m.holds r (values.member n)) (with_handle s s.cells))
step m s (index h i) = at_handle s h (λ r. or_unchanged s (deeper m.holds r (values.index i)) (with_handle s s.cells))
step m s (read_of h) = at_handle s h (λ r. or_unchanged s (read m.holds r) (λ v. unchanged s (value v)))
step m s (write h w) = at_handle s h (λ r. with_put m s not_write (λ old. done) r w)
step m s (replace h w) = at_handle s h (λ r. with_put m s not_read_write value r w)
step m s (copy from to) = at_handle s from (λ q. at_handle s to (λ r. or_unchanged s (read m.holds q) (with_put m s not_write (λ old. done) r)))
step m s (load_of h) = at_handle s h (λ r. or_unchanged s (load m.holds r.ty r) (λ v. unchanged s (value v)))

-- ---- the memory of values

-- its cells are values
abbrev pub of_values : List Val → Memory Val
of_values cells = record { cell_of = λ v. v; holds = held cells; put = put_cells cells }

-- this is left and answered; or memory could not be had, which is no answer and changes nothing
abbrev pub IsReached : After Val → State Val → State Val → Option Answer → Type 0
IsReached reached before after None = after ≡ before
IsReached reached before after (Some a) = reached ≡ record { state = after; answer = a }

-- a call does its step
abbrev pub IsStep : State Val → Call → State Val → Option Answer → Type 0
IsStep before call after answer = IsReached (step (of_values before.cells) before call) before after answer

-- the handles are there, and both name parts of cells of bytes
abbrev pub handles_in_bytes : State Val → ℕ → ℕ → Bool
handles_in_bytes s from to = elim (slice_get s.handles from) [ None ↦ false | Some q ↦ elim (slice_get s.handles to) [ None ↦ false | Some r ↦ are_in_bytes s.cells q r ] ]

-- the call is a write, or a copy between cells of bytes, and its step accepts it
abbrev pub IsAcceptedWrite : State Val → Call → Type 0
IsAcceptedWrite s (write h w) = (step (of_values s.cells) s (write h w)).answer ≡ done
IsAcceptedWrite s (copy from to) = IsTrue (handles_in_bytes s from to) × ((step (of_values s.cells) s (copy from to)).answer ≡ done)
IsAcceptedWrite s call = ⊥

-- a call does its step, and memory is never wanting where that is an accepted write
abbrev pub IsStepTaken : State Val → Call → State Val → Option Answer → Type 0
IsStepTaken before call after answer = IsStep before call after answer × (IsAcceptedWrite before call → answer ≡ Some done)

-- one step for each call, in order, with one answer each
abbrev pub IsRunOf : {S : Type 0} → (S → Call → S → Option Answer → Type 0) → S → List Call → S → List (Option Answer) → Type 0
IsRunOf IsOne before [] after answers = (answers ≡ []) × (after ≡ before)
IsRunOf IsOne before (call ∷ calls) after [] = ⊥
IsRunOf {S = S} IsOne before (call ∷ calls) after (answer ∷ answers) =
    (next : S) × IsOne before call next answer × IsRunOf IsOne next calls after answers

abbrev pub IsRun : State Val → List Call → State Val → List (Option Answer) → Type 0
IsRun = IsRunOf IsStep

-- a run in which each accepted write is made
abbrev pub IsRunTaken : State Val → List Call → State Val → List (Option Answer) → Type 0
IsRunTaken = IsRunOf IsStepTaken

-- each cell holds a value that may be stored, and each reference, in a cell or of a handle, is kept
pub record IsGood (s : State Val) : Type 0 where
  pub sound : IsSound s.cells
  pub kept : AllKept s.cells s.handles
