-- Which types are plain and concrete, and of which the size is known where a variable is made (WGSL: plain types; composite
-- types; fixed-footprint types).
use Rattle.std.specs.Prelude.{ℕ, Bool, true, false, not, nat_le, ◌&&◌, ◌||◌, Option, Some, None}
use Rattle.wgsl_rules.specs.Types.{Ty, bool, abstract_int, abstract_float, i32, u32, f32, f16, i64, u64, f64, struct, array, vec, mat, atomic, ptr, ref, texture, sampler, Fields, no_fields, field}
use Rattle.wgsl_rules.specs.Layout.{is_from_2_to_4, have_none}

-- the numeric scalar types
abbrev pub is_number : Ty → Bool
is_number abstract_int = true
is_number abstract_float = true
is_number i32 = true
is_number u32 = true
is_number f32 = true
is_number f16 = true
is_number i64 = true
is_number u64 = true
is_number f64 = true
is_number t = false

abbrev pub is_scalar : Ty → Bool
is_scalar bool = true
is_scalar t = is_number t

-- what an atomic holds (WGSL: atomic types)
abbrev pub is_atomic_content : Ty → Bool
is_atomic_content i32 = true
is_atomic_content u32 = true
is_atomic_content t = false

abbrev pub is_runtime_sized : Ty → Bool
is_runtime_sized (array t None) = true
is_runtime_sized t = false

-- an array has one element at least; how many a runtime-sized one has is told later
abbrev pub is_count : Option ℕ → Bool
is_count None = true
is_count (Some n) = nat_le 1 n

-- components, and their numbers
abbrev pub is_vector : ℕ → Ty → Bool
is_vector n t = is_from_2_to_4 n && is_scalar t

abbrev pub is_matrix : ℕ → ℕ → Ty → Bool
is_matrix c r t = is_from_2_to_4 c && (is_from_2_to_4 r && is_number t)

-- a type without a runtime-sized array inside
abbrev mutual
  pub is_sized : Ty → Bool
  is_sized (array t None) = false
  is_sized (array t (Some n)) = is_sized t
  is_sized (struct name fs) = are_sized fs
  is_sized t = true

  pub are_sized : Fields → Bool
  are_sized no_fields = true
  are_sized (field name t s a fs) = is_sized t && are_sized fs

-- a member in front of these others: the last one alone may be a runtime-sized array, and no other type that has one
-- inside is a member (WGSL: structure types)
abbrev pub may_stand_before : Fields → Ty → Bool
may_stand_before fs t = is_sized t || (have_none fs && is_runtime_sized t)

-- a scalar, an atomic or a composite. Elements and members are plain; elements are sized (WGSL: plain types; array types;
-- structure types)
abbrev mutual
  pub is_plain : Ty → Bool
  is_plain (vec n t) = is_vector n t
  is_plain (mat c r t) = is_matrix c r t
  is_plain (atomic t) = is_atomic_content t
  is_plain (array t n) = is_count n && (is_sized t && is_plain t)
  is_plain (struct name fs) = not (have_none fs) && are_plain fs
  is_plain (ptr s t a) = false
  is_plain (ref s t a) = false
  is_plain (texture t) = false
  is_plain (sampler s) = false
  is_plain t = true

  pub are_plain : Fields → Bool
  are_plain no_fields = true
  are_plain (field name t s a fs) = (may_stand_before fs t && is_plain t) && are_plain fs

-- no abstract number is inside (WGSL: abstract numeric types)
abbrev mutual
  pub is_concrete : Ty → Bool
  is_concrete abstract_int = false
  is_concrete abstract_float = false
  is_concrete (vec n t) = is_concrete t
  is_concrete (mat c r t) = is_concrete t
  is_concrete (atomic t) = is_concrete t
  is_concrete (array t n) = is_concrete t
  is_concrete (struct name fs) = are_concrete fs
  is_concrete t = true

  pub are_concrete : Fields → Bool
  are_concrete no_fields = true
  are_concrete (field name t s a fs) = is_concrete t && are_concrete fs

-- a plain type of which each count is a const-expression. The count of an array is a number here, so it is one (WGSL:
-- creation-fixed footprint)
abbrev pub has_creation_fixed_footprint : Ty → Bool
has_creation_fixed_footprint t = is_plain t && is_sized t

-- the outermost count may be an override-expression too; a type of this library has none that is no number (WGSL: fixed
-- footprint)
abbrev pub has_fixed_footprint : Ty → Bool
has_fixed_footprint t = has_creation_fixed_footprint t
