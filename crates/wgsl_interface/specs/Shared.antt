-- Which types the variables of an address space may have (WGSL: storable types; constructible types; host-shareable types;
-- address spaces).
use Rattle.std.specs.Prelude.{Bool, true, false, not, ◌&&◌, ◌||◌, Option, Some, None}
use Rattle.wgsl_rules.specs.Types.{Ty, i32, u32, f32, f16, i64, u64, f64, struct, array, vec, mat, atomic, ptr, ref, texture, sampler, Fields, no_fields, field}
use Rattle.wgsl_rules.specs.Layout.{have_none}
use Rattle.wgsl_rules.specs.declared.syntax.AddressSpace.{AddressSpace}
use Rattle.wgsl_rules.specs.declared.syntax.AddressSpace.TheVariants as space
use Rattle.wgsl_rules.specs.declared.syntax.AccessMode.{AccessMode}
use Rattle.wgsl_rules.specs.declared.syntax.AccessMode.TheVariants as mode
use Rattle.wgsl_interface.specs.Plain.{is_atomic_content, is_count, is_vector, is_matrix, is_sized, may_stand_before, is_plain, is_concrete, has_fixed_footprint}

abbrev pub is_handle : Ty → Bool
is_handle (texture t) = true
is_handle (sampler s) = true
is_handle t = false

-- what a variable may hold (WGSL: storable types)
abbrev pub is_storable : Ty → Bool
is_storable t = (is_concrete t && is_plain t) || is_handle t

-- the structures in it, but not in other structures, are storable
abbrev mutual
  pub has_storable_structures : Ty → Bool
  has_storable_structures (struct name fs) = have_storable_structures fs
  has_storable_structures t = true

  pub have_storable_structures : Fields → Bool
  have_storable_structures no_fields = true
  have_storable_structures (field name t s a fs) = is_storable_structure t && have_storable_structures fs

  pub is_storable_structure : Ty → Bool
  is_storable_structure (array t n) = is_storable_structure t
  is_storable_structure (struct name fs) = is_storable (struct name fs)
  is_storable_structure t = true

-- what may be made, loaded and passed on: a scalar, a vector, a matrix, and arrays and structures of these of a fixed
-- footprint; no atomic (WGSL: constructible types)
abbrev mutual
  pub is_constructible : Ty → Bool
  is_constructible (vec n t) = is_vector n t
  is_constructible (mat c r t) = is_matrix c r t
  is_constructible (array t None) = false
  is_constructible (array t (Some n)) = is_count (Some n) && (is_sized t && is_constructible t)
  is_constructible (struct name fs) = not (have_none fs) && are_constructible fs
  is_constructible (atomic t) = false
  is_constructible (ptr s t a) = false
  is_constructible (ref s t a) = false
  is_constructible (texture t) = false
  is_constructible (sampler s) = false
  is_constructible t = true

  pub are_constructible : Fields → Bool
  are_constructible no_fields = true
  are_constructible (field name t s a fs) = is_constructible t && are_constructible fs

-- what a buffer may hold: concrete numbers, vectors and matrices of these, atomics, and arrays and structures of such
-- types; no bool (WGSL: host-shareable types)
abbrev mutual
  pub is_host_shareable : Ty → Bool
  is_host_shareable i32 = true
  is_host_shareable u32 = true
  is_host_shareable f32 = true
  is_host_shareable f16 = true
  is_host_shareable i64 = true
  is_host_shareable u64 = true
  is_host_shareable f64 = true
  is_host_shareable (vec n t) = is_vector n t && is_host_shareable t
  is_host_shareable (mat c r t) = is_matrix c r t && is_host_shareable t
  is_host_shareable (atomic t) = is_atomic_content t
  is_host_shareable (array t n) = is_count n && (is_sized t && is_host_shareable t)
  is_host_shareable (struct name fs) = not (have_none fs) && are_host_shareable fs
  is_host_shareable t = false

  pub are_host_shareable : Fields → Bool
  are_host_shareable no_fields = true
  are_host_shareable (field name t s a fs) = (may_stand_before fs t && is_host_shareable t) && are_host_shareable fs

-- an atomic is inside
abbrev mutual
  pub has_atomic : Ty → Bool
  has_atomic (atomic t) = true
  has_atomic (array t n) = has_atomic t
  has_atomic (struct name fs) = have_atomic fs
  has_atomic t = false

  pub have_atomic : Fields → Bool
  have_atomic no_fields = false
  have_atomic (field name t s a fs) = has_atomic t || have_atomic fs

-- a storage variable is read where no mode is given (WGSL: address spaces)
abbrev pub is_read_write : Option AccessMode → Bool
is_read_write (Some mode.ReadWrite) = true
is_read_write access = false

-- whether a variable of the address space, for which this access mode is given, may be of the type. What uniform space asks
-- of the layout is no matter here (WGSL: address spaces; atomic types)
abbrev pub may_be_of : AddressSpace → Option AccessMode → Ty → Bool
may_be_of space.Storage access t = is_host_shareable t && (is_read_write access || not (has_atomic t))
may_be_of space.Uniform access t = is_host_shareable t && is_constructible t
may_be_of space.Workgroup access t = is_concrete t && has_fixed_footprint t
may_be_of space.Private access t = is_concrete t && is_constructible t
may_be_of space.Function access t = is_concrete t && is_constructible t
may_be_of space.Handle access t = is_handle t
