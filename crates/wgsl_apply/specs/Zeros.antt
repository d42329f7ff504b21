-- The zero values of types (WGSL: zero value built-in functions).
use Rattle.std.specs.Prelude.{ℕ, zero, suc, pos, false, nat_le, Option, Some, None, option_map, if◌then◌else◌}
use Rattle.wgsl_rules.specs.Converted.{joined}
use Rattle.wgsl_rules.specs.Kinds as kinds
use Rattle.wgsl_rules.specs.Layout.{is_from_2_to_4}
use Rattle.wgsl_rules.specs.Types.{Ty, bool, abstract_int, i32, u32, i64, u64, struct, array, vec, mat, Fields, no_fields, field}
use Rattle.wgsl_rules.specs.Values.{Val, truth, number, record_of, array_of, vector, matrix, Vals, no_vals, val}

-- false, or the number 0 of the kind
abbrev pub zero_scalar : Ty → Option Val
zero_scalar bool = Some (truth false)
zero_scalar abstract_int = Some (number kinds.abstract_int (pos 0))
zero_scalar i32 = Some (number kinds.i32 (pos 0))
zero_scalar u32 = Some (number kinds.u32 (pos 0))
zero_scalar i64 = Some (number kinds.i64 (pos 0))
zero_scalar u64 = Some (number kinds.u64 (pos 0))
zero_scalar t = None

-- so many of one value
abbrev pub copies : ℕ → Val → Vals
copies zero v = no_vals
copies (suc n) v = val v (copies n v)

-- from two to four zeros
abbrev pub zero_vector : ℕ → Ty → Option Val
zero_vector n t = if is_from_2_to_4 n then option_map (λ v. vector (copies n v)) (zero_scalar t) else None

-- from two to four columns of zeros
abbrev pub zero_matrix : ℕ → ℕ → Ty → Option Val
zero_matrix c r t = if is_from_2_to_4 c then option_map (λ v. matrix (copies c v)) (zero_vector r t) else None

-- one zero at least, and a count of them that the type carries
abbrev pub zero_array : Option ℕ → Option Val → Option Val
zero_array (Some n) o = if nat_le 1 n then option_map (λ v. array_of false (copies n v)) o else None
zero_array None o = None

-- each part is the zero of its type. Atomics, pointers, references, floats, textures and samplers have none
abbrev mutual
  pub zero_of : Ty → Option Val
  zero_of (vec n t) = zero_vector n t
  zero_of (mat c r t) = zero_matrix c r t
  zero_of (array t n) = zero_array n (zero_of t)
  zero_of (struct n fs) = option_map (record_of (struct n fs)) (zeros_of fs)
  zero_of t = zero_scalar t

  pub zeros_of : Fields → Option Vals
  zeros_of no_fields = Some no_vals
  zeros_of (field n t s a fs) = joined (zero_of t) (zeros_of fs)
