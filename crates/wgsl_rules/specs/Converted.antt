-- What a value, or a type, is in another type (WGSL: feasible automatic conversions; conversion rank).
use Rattle.std.specs.Prelude.{ℕ, ℤ, Bool, true, false, Option, Some, None, is_some, option_map, ◌==◌, if◌then◌else◌}
use Rattle.wgsl_rules.specs.Conversion.{rank}
use Rattle.wgsl_rules.specs.Kinds as kinds
use Rattle.wgsl_rules.specs.Kinds.{Kind, in_kind}
use Rattle.wgsl_rules.specs.Same.{same, same_number}
use Rattle.wgsl_rules.specs.TypeParts.{with_inner}
use Rattle.wgsl_rules.specs.Types as types
use Rattle.wgsl_rules.specs.Types.{Ty}
use Rattle.wgsl_rules.specs.Values.{Val, truth, number, array_of, vector, matrix, deferred, Vals, no_vals, val, count, type_of}

-- the number as one of the kind, where it is in range
abbrev pub number_in : Kind → ℤ → Option Val
number_in k z = if in_kind k z then Some (number k z) else None

-- an abstract integer is an i32 or a u32 where it is in range, and no other number
abbrev pub abstract_converted : ℤ → Ty → Option Val
abstract_converted z types.abstract_int = Some (number kinds.abstract_int z)
abstract_converted z types.i32 = number_in kinds.i32 z
abstract_converted z types.u32 = number_in kinds.u32 z
abstract_converted z t = None

-- a value that has no type but its own
abbrev pub kept : Val → Ty → Option Val
kept v t = if same (type_of v) t then Some v else None

-- the count in the type of an array of so many elements
abbrev pub type_count : Bool → ℕ → Option ℕ
type_count runtime n = if runtime then None else Some n

-- the values that begin with one that may be missing
abbrev pub joined : Option Val → Option Vals → Option Vals
joined (Some v) (Some vs) = Some (val v vs)
joined v vs = None

-- what a value is in a type. An array is one of its own sort (of equal count, or runtime-sized), a
-- vector one of equal count, a matrix one of equal shape, where each element is one of the element
-- type
abbrev mutual
  pub converted : Val → Ty → Option Val
  converted (number kinds.abstract_int z) t = abstract_converted z t
  converted (array_of runtime vs) (types.array t n) =
      if same_number (type_count runtime (count vs)) n then option_map (array_of runtime) (all_converted vs t) else None
  converted (vector vs) (types.vec n t) = if count vs == n then option_map vector (all_converted vs t) else None
  converted (matrix vs) (types.mat c r t) =
      if count vs == c then option_map matrix (all_converted vs (types.vec r t)) else None
  converted v t = kept v t

  -- what each of the values is in the type, where each is something
  pub all_converted : Vals → Ty → Option Vals
  all_converted no_vals t = Some no_vals
  all_converted (val v vs) t = joined (converted v t) (all_converted vs t)

-- literals, arrays, vectors and matrices
abbrev pub has_inner : Val → Bool
has_inner (truth b) = true
has_inner (number k z) = true
has_inner (array_of runtime vs) = true
has_inner (vector vs) = true
has_inner (matrix vs) = true
has_inner v = false

-- what a value is with the type inside its own replaced: each element of an array, each component of
-- a vector, each scalar of a matrix is in the type; a literal itself. No other value has such a part
abbrev pub inner_converted : Val → Ty → Option Val
inner_converted v t = if has_inner v then converted v (with_inner (type_of v) t) else None

-- a type becomes each type to which it has a rank
abbrev pub type_converted : Val → Ty → Option Val
type_converted (deferred s) t = if is_some (rank s t) then Some (deferred t) else None
type_converted v t = None

-- the same of the type inside an array, vector or matrix type; any other type as a whole, so that an
-- atomic or pointer type stays what it is
abbrev pub type_inner_converted : Val → Ty → Option Val
type_inner_converted v t = type_converted v (with_inner (type_of v) t)
