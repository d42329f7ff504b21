-- The parts of values, as the calls that look at them answer.
use Rattle.std.specs.Prelude.{ℕ, Bool, false, Option, Some, None, option_and_then}
use Rattle.wgsl_rules.specs.Values.{Val, record_of, array_of, vector, matrix, Vals, no_vals, item}

-- ---- the composites among the values (WGSL: composite types)

abbrev pub as_record : Val → Option Val
as_record (record_of t vs) = Some (record_of t vs)
as_record v = None

abbrev pub as_vector : Val → Option Val
as_vector (vector vs) = Some (vector vs)
as_vector v = None

-- the parts of what is indexed: an array, a vector or a matrix
abbrev pub indexed_parts : Val → Option Vals
indexed_parts (array_of runtime vs) = Some vs
indexed_parts (vector vs) = Some vs
indexed_parts (matrix vs) = Some vs
indexed_parts v = None

abbrev pub is_runtime_sized : Val → Bool
is_runtime_sized (array_of runtime vs) = runtime
is_runtime_sized v = false

-- ---- columns and rows (WGSL: matrix types)

-- the components of a vector; no other value has any
abbrev pub components : Val → Vals
components (vector vs) = vs
components v = no_vals

-- the component in the column and the row
abbrev pub component_at : ℕ → ℕ → Vals → Option Val
component_at column row columns = option_and_then (λ v. item row (components v)) (item column columns)
