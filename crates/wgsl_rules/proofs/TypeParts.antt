-- Types that are none of a case have no parts of that case.
use Rattle.std.proofs.Common.{◌≡◌, ℕ, List, Option, None, refl}
use Rattle.wgsl_rules.specs.Conversion.{loaded_type}
use Rattle.wgsl_rules.specs.Types.{Ty, Fields, struct, array, vec, mat, atomic, ptr, ref}
use Rattle.wgsl_rules.specs.TypeParts.{struct_part, array_part, vec_part, mat_part, atomic_part, ptr_part, ref_part}
use Rattle.wgsl_rules.specs.declared.syntax.AddressSpace.{AddressSpace}
use Rattle.wgsl_rules.specs.declared.syntax.AccessMode.{AccessMode}

pub struct_part-none : (t : Ty) → ((n : List ℕ) (fs : Fields) → t ≡ struct n fs → ⊥) → None ≡ struct_part t
struct_part-none (struct n fs) h = absurd (h n fs refl)
struct_part-none t h = refl

pub array_part-none : (t : Ty) → ((u : Ty) (n : Option ℕ) → t ≡ array u n → ⊥) → None ≡ array_part t
array_part-none (array u n) h = absurd (h u n refl)
array_part-none t h = refl

pub vec_part-none : (t : Ty) → ((n : ℕ) (u : Ty) → t ≡ vec n u → ⊥) → None ≡ vec_part t
vec_part-none (vec n u) h = absurd (h n u refl)
vec_part-none t h = refl

pub mat_part-none : (t : Ty) → ((c : ℕ) (r : ℕ) (u : Ty) → t ≡ mat c r u → ⊥) → None ≡ mat_part t
mat_part-none (mat c r u) h = absurd (h c r u refl)
mat_part-none t h = refl

pub atomic_part-none : (t : Ty) → ((u : Ty) → t ≡ atomic u → ⊥) → None ≡ atomic_part t
atomic_part-none (atomic u) h = absurd (h u refl)
atomic_part-none t h = refl

pub ptr_part-none : (t : Ty) → ((s : AddressSpace) (u : Ty) (a : AccessMode) → t ≡ ptr s u a → ⊥) → None ≡ ptr_part t
ptr_part-none (ptr s u a) h = absurd (h s u a refl)
ptr_part-none t h = refl

pub ref_part-none : (t : Ty) → ((s : AddressSpace) (u : Ty) (a : AccessMode) → t ≡ ref s u a → ⊥) → None ≡ ref_part t
ref_part-none (ref s u a) h = absurd (h s u a refl)
ref_part-none t h = refl

-- a type that is no reference is what it refers to
pub loaded_type-same : (t : Ty) → ((s : AddressSpace) (u : Ty) (a : AccessMode) → t ≡ ref s u a → ⊥) → t ≡ loaded_type t
loaded_type-same (ref s u a) h = absurd (h s u a refl)
loaded_type-same t h = refl
