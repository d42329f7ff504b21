-- The types inside a type, and what the composite types are made of (WGSL: composite types; atomic
-- types; reference and pointer types).
use Rattle.std.specs.Prelude.{ℕ, Option, Some, None}
use Rattle.wgsl_rules.specs.Types.{Ty, struct, array, vec, mat, atomic, ptr, ref}
use Rattle.wgsl_rules.specs.Values.{Val, deferred}
use Rattle.wgsl_rules.specs.View.{type_view}
use Rattle.wgsl_rules.specs.declared.syntax.AddressSpace.{AddressSpace}
use Rattle.wgsl_rules.specs.declared.syntax.AccessMode.{AccessMode}
use Rattle.wgsl_rules.specs.declared.ty.Type.{«Type» as RType}

-- the type inside an array, vector, matrix (its scalar), atomic, pointer or reference; any other
-- type itself
abbrev pub inner_type : Ty → Ty
inner_type (array t n) = t
inner_type (vec n t) = t
inner_type (mat c r t) = t
inner_type (atomic t) = t
inner_type (ptr s t a) = t
inner_type (ref s t a) = t
inner_type t = t

-- an array, vector or matrix type with another type inside; of any other type the other type
abbrev pub with_inner : Ty → Ty → Ty
with_inner (array s n) t = array t n
with_inner (vec n s) t = vec n t
with_inner (mat c r s) t = mat c r t
with_inner s t = t

-- a structure type
abbrev pub struct_part : Ty → Option Ty
struct_part (struct n fs) = Some (struct n fs)
struct_part t = None

-- of an array type the element type and the count
abbrev pub array_part : Ty → Option (Ty × Option ℕ)
array_part (array t n) = Some (t, n)
array_part t = None

-- of a vector type the count and the component type
abbrev pub vec_part : Ty → Option (ℕ × Ty)
vec_part (vec n t) = Some (n, t)
vec_part t = None

-- of a matrix type the columns, the rows and the scalar type
abbrev pub mat_part : Ty → Option (ℕ × ℕ × Ty)
mat_part (mat c r t) = Some (c, r, t)
mat_part t = None

-- of an atomic type the type inside
abbrev pub atomic_part : Ty → Option Ty
atomic_part (atomic t) = Some t
atomic_part t = None

-- of a pointer type the address space, the type that is pointed to and the access mode
abbrev pub ptr_part : Ty → Option (AddressSpace × Ty × AccessMode)
ptr_part (ptr s t a) = Some (s, t, a)
ptr_part t = None

-- of a reference type the address space, the type that is referred to and the access mode
abbrev pub ref_part : Ty → Option (AddressSpace × Ty × AccessMode)
ref_part (ref s t a) = Some (s, t, a)
ref_part t = None

-- a type among the values is the deferred value of the type
abbrev pub type_value : RType → Val
type_value t = deferred (type_view t)
