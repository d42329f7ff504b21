-- What the calls on a reference answer and change, each with its refusals in order (WGSL: memory views; load
-- rule; assignment statement). Each is stated for whatever says what references hold: `holds r` is the value
-- that the reference r holds. In cells with values that is `held cells`.
use Rattle.std.specs.Prelude.{List, [], ◌∷◌, ◌++◌, length, Ok, Err, if◌then◌else◌}
use Rattle.wgsl_rules.specs.Access.{can_read, can_write}
use Rattle.wgsl_rules.specs.Types.{Ty, ref}
use Rattle.wgsl_rules.specs.Values.{Step, Reference, Val, reference, type_of}
use Rattle.wgsl_rules.specs.Refusals.{Refusal, not_read, not_write, not_read_write, write_ref_type, Outcome, and_then}
use Rattle.wgsl_rules.specs.Paths.{viewed, fits}
use Rattle.wgsl_rules.specs.declared.syntax.AddressSpace.{AddressSpace}
use Rattle.wgsl_rules.specs.declared.syntax.AccessMode.{AccessMode}
use Rattle.wgsl_store.specs.Memory.{held, put_cells}

-- ---- new references

-- a reference to the whole of a new last cell, which comes after these cells and holds v
abbrev pub whole_of_new : {C : Type 0} → List C → Val → AddressSpace → AccessMode → Reference
whole_of_new cells v space access = record { cell = length cells; view = []; ty = type_of v; space = space; access = access }

-- a reference that goes on by these steps, to what is of this type
abbrev pub going_on : Reference → List Step → Ty → Reference
going_on r steps t = record { cell = r.cell; view = r.view ++ steps; ty = t; space = r.space; access = r.access }

-- ---- reads

-- the value read
abbrev pub read : (Reference → Outcome Val) → Reference → Outcome Val
read holds r = if can_read r.access then holds r else Err not_read

-- a reference one step deeper, with the type of what is there
abbrev pub deeper : (Reference → Outcome Val) → Reference → Step → Outcome Reference
deeper holds r s = and_then (read holds r) (λ v. and_then (viewed (s ∷ []) v) (λ x. Ok (going_on r (s ∷ []) (type_of x))))

-- ---- writes

-- the value that w takes the place of, where the reference may write: it is taken where w fits it. The refusal
-- is that of a reference which may not write
abbrev pub old_value : Refusal → (Reference → Outcome Val) → Reference → Val → Outcome Val
old_value refusal holds r w =
    if can_write r.access
    then and_then (holds r) (λ v. if fits w v then Ok v else Err (write_ref_type (type_of w) r.ty))
    else Err refusal

-- the cells after a write
abbrev pub written : List Val → Reference → Val → Outcome (List Val)
written cells r w = and_then (old_value not_write (held cells) r w) (λ old. Ok (put_cells cells r w))

-- the old value that a call answers which reads and writes, and the cells after it
pub record Replaced : Type 0 where
  pub old : Val
  pub cells : List Val

-- it needs leave to write alone
abbrev pub read_written : List Val → Reference → Val → Outcome Replaced
read_written cells r w = and_then (old_value not_read_write (held cells) r w) (λ old. Ok (record { old = old; cells = put_cells cells r w }))

-- ---- loads

-- a value, or what its reference leads to, where `load` says what references lead to
abbrev pub read_on : (Reference → Outcome Val) → Val → Outcome Val
read_on load (reference r) = load r
read_on load v = Ok v

-- what a reference to the type leads to, read on while what is read is a reference: what is behind a reference
-- to a reference to t is a reference to t
abbrev pub load : (Reference → Outcome Val) → Ty → Reference → Outcome Val
load holds (ref space t access) r = and_then (read holds r) (read_on (load holds t))
load holds t r = read holds r

-- a value, loaded
abbrev pub loaded : (Reference → Outcome Val) → Val → Outcome Val
loaded holds v = read_on (λ r. load holds r.ty r) v
