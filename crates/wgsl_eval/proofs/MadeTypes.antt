-- What is made of values, by the cases of the type.
use Rattle.std.proofs.Common.{◌≡◌, ◌∙◌, ℕ, List, true, Option, Some, None, is_some, refl, sym, ap}
use Rattle.std.specs.Option.{option_map}
use Rattle.wgsl_apply.specs.Zeros.{zero_scalar}
use Rattle.wgsl_rules.specs.TypeParts.{array_part, mat_part, struct_part, vec_part}
use Rattle.wgsl_rules.specs.Types as types
use Rattle.wgsl_rules.specs.Types.{Ty}
use Rattle.wgsl_rules.specs.Values.{Val}
use Rattle.wgsl_scalar.specs.Literals.{literal_of}
use Rattle.wgsl_scalar.specs.declared.literal.LiteralInstance.{LiteralInstance}
use Rattle.wgsl_eval.specs.Constructors.{array_made, made_of, matrix_made, scalar_made, structure_made, vector_made}

abbrev vec_from : Option (ℕ × Ty) → Ty
vec_from (Some p) = types.vec p.0 p.1
vec_from None = types.bool

vec_part-is : (u t : Ty) (n : ℕ) → Some (n, t) ≡ vec_part u → types.vec n t ≡ u
vec_part-is (types.vec m v) t n e = ap vec_from e
vec_part-is u t n e = cc

pub made-vec : (u t : Ty) (n : ℕ) (vs : List Val) → Some (n, t) ≡ vec_part u → vector_made n t vs ≡ made_of u vs
made-vec u t n vs e = ap (λ x. made_of x vs) (vec_part-is u t n e)

abbrev mat_from : Option (ℕ × ℕ × Ty) → Ty
mat_from (Some p) = types.mat p.0 p.1 p.2
mat_from None = types.bool

mat_part-is : (u t : Ty) (c r : ℕ) → Some (c, r, t) ≡ mat_part u → types.mat c r t ≡ u
mat_part-is (types.mat d s v) t c r e = ap mat_from e
mat_part-is u t c r e = cc

pub made-mat : (u t : Ty) (c r : ℕ) (vs : List Val) → Some (c, r, t) ≡ mat_part u → matrix_made c r t vs ≡ made_of u vs
made-mat u t c r vs e = ap (λ x. made_of x vs) (mat_part-is u t c r e)

abbrev array_from : Option (Ty × Option ℕ) → Ty
array_from (Some p) = types.array p.0 p.1
array_from None = types.bool

array_part-is : (u t : Ty) (n : Option ℕ) → Some (t, n) ≡ array_part u → types.array t n ≡ u
array_part-is (types.array v m) t n e = ap array_from e
array_part-is u t n e = cc

pub made-array : (u t : Ty) (n : ℕ) (vs : List Val) → Some (t, Some n) ≡ array_part u → array_made n t vs ≡ made_of u vs
made-array u t n vs e = ap (λ x. made_of x vs) (array_part-is u t (Some n) e)

abbrev struct_from : Option Ty → Ty
struct_from (Some t) = t
struct_from None = types.bool

pub made-struct : (u t : Ty) (vs : List Val) → Some t ≡ struct_part u → structure_made t vs ≡ made_of u vs
made-struct (types.struct n fs) t vs e = ap (λ x. structure_made x vs) (ap struct_from e)
made-struct u t vs e = cc

scalar-made : (t : Ty) (vs : List Val) → is_some (zero_scalar t) ≡ true → scalar_made t vs ≡ made_of t vs
scalar-made types.bool vs h = refl
scalar-made types.abstract_int vs h = refl
scalar-made types.i32 vs h = refl
scalar-made types.u32 vs h = refl
scalar-made types.i64 vs h = refl
scalar-made types.u64 vs h = refl
scalar-made t vs h = cc

is_some-mapped : (o : Option LiteralInstance) → is_some (option_map literal_of o) ≡ is_some o
is_some-mapped None = refl
is_some-mapped (Some l) = refl

pub made-scalar : (t : Ty) (vs : List Val) (o : Option LiteralInstance) → option_map literal_of o ≡ zero_scalar t → is_some o ≡ true → scalar_made t vs ≡ made_of t vs
made-scalar t vs o e h = scalar-made t vs (sym (ap is_some e) ∙ is_some-mapped o ∙ h)
