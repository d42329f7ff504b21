-- Which types have a table: the host-shareable types, of whatever numbers, whose sizes, alignments and offsets are known
-- (WGSL: host-shareable types; alignment and size; structure member layout).
use Rattle.std.specs.Prelude.{ℕ, Option, Some, None, Bool, true, false, is_some, is_none, nat_le, nat_lt, ◌&&◌, ◌||◌, if◌then◌else◌}
use Rattle.wgsl_rules.specs.Types.{Ty, i32, u32, f32, f16, i64, u64, f64, struct, array, vec, mat, atomic, Fields, no_fields, field}
use Rattle.wgsl_rules.specs.Size.{size_of, align_of, extent_in, offset_after, end_after}
use Rattle.wgsl_rules.specs.Layout.{known_stride, is_from_2_to_4, is_align_valid, are_attributes_valid, have_none}

-- the kind of a number; 0 of what is no number of host-shared memory
abbrev pub scalar_kind : Ty → ℕ
scalar_kind i32 = 1
scalar_kind u32 = 2
scalar_kind f32 = 3
scalar_kind f16 = 4
scalar_kind i64 = 5
scalar_kind u64 = 6
scalar_kind f64 = 7
scalar_kind t = 0

-- of an atomic of such a number, 256 more
abbrev pub atomic_kind : Ty → ℕ
atomic_kind i32 = 257
atomic_kind u32 = 258
atomic_kind t = 0

abbrev pub kind_of : Ty → ℕ
kind_of (atomic t) = atomic_kind t
kind_of t = scalar_kind t

abbrev pub is_scalar : Ty → Bool
is_scalar t = nat_lt 0 (scalar_kind t)

-- a scalar or an atomic
abbrev pub is_number : Ty → Bool
is_number t = nat_lt 0 (kind_of t)

-- a type of a fixed size, which is known
abbrev mutual
  pub has_fixed_nodes : Ty → Bool
  has_fixed_nodes (vec n t) = is_from_2_to_4 n && (is_scalar t && is_some (align_of (vec n t)))
  has_fixed_nodes (mat c r t) = is_from_2_to_4 c && (is_from_2_to_4 r && (is_scalar t && is_some (size_of (mat c r t))))
  has_fixed_nodes (array t (Some n)) = nat_le 1 n && (has_fixed_nodes t && is_some (size_of (array t (Some n))))
  has_fixed_nodes (struct name fs) = have_fixed_nodes fs && is_some (size_of (struct name fs))
  has_fixed_nodes t = is_number t

  -- and each of the members, with valid attributes
  pub have_fixed_nodes : Fields → Bool
  have_fixed_nodes no_fields = true
  have_fixed_nodes (field name t s a fs) = (has_fixed_nodes t && are_attributes_valid t s a) && have_fixed_nodes fs

-- a runtime-sized array of such elements
abbrev pub is_runtime_array : Ty → Bool
is_runtime_array (array t None) = has_fixed_nodes t && is_some (known_stride t)
is_runtime_array t = false

-- the last of the members, of which the first stands behind what ends at `from`, is such an array, without a size
-- attribute, and has a place; the others are of fixed sizes
abbrev pub end_in_runtime_array : Option ℕ → Fields → Bool
end_in_runtime_array from no_fields = false
end_in_runtime_array from (field name t s a fs) =
    if have_none fs
    then (is_runtime_array t && (is_none s && is_align_valid a (align_of t))) && is_some (offset_after from (extent_in t s a))
    else (has_fixed_nodes t && are_attributes_valid t s a) && end_in_runtime_array (end_after from (extent_in t s a)) fs

abbrev pub has_runtime_nodes : Ty → Bool
has_runtime_nodes (struct name fs) = end_in_runtime_array (Some 0) fs
has_runtime_nodes t = is_runtime_array t

abbrev pub has_nodes : Ty → Bool
has_nodes t = has_fixed_nodes t || has_runtime_nodes t
