-- Atomics and their numbers (WGSL: atomic types).
use Rattle.std.specs.Prelude.{◌≡◌, Option, Some, None}
use Rattle.wgsl_rules.specs.Types.{Ty}
use Rattle.wgsl_rules.specs.Values.{Val, atomic_of, type_of}

-- the number that an atomic holds; no other value has one
abbrev pub number_in : Val → Option Val
number_in (atomic_of v) = Some v
number_in v = None

-- an atomic with a number of this type
abbrev pub IsAtomicOf : Ty → Val → Type 0
IsAtomicOf t (atomic_of v) = type_of v ≡ t
IsAtomicOf t v = ⊥
