-- What a layout says of the parts of a type.
use Rattle.std.proofs.Common.{◌≡◌, ℕ, Option, Some, is_some, is_none, Bool, true}
use Rattle.std.proofs.lemmas.Bool.{false≢true}
use Rattle.std.specs.Prelude.{nat_le, ◌&&◌}
use Rattle.wgsl_rules.specs.Kinds as kinds
use Rattle.wgsl_rules.specs.Kinds.{Kind}
use Rattle.wgsl_rules.specs.Types.{Ty, array, mat, struct, vec}
use Rattle.wgsl_rules.specs.Values.{matrix_type, type_of_kind}
use Rattle.wgsl_rules.specs.Size.{size_of, align_of, offset_after, extent_in}
use Rattle.wgsl_rules.specs.Layout.{scalar_kind, is_from_2_to_4, is_size_valid, is_align_valid, are_attributes_valid, has_fixed_layout, has_runtime_layout, is_runtime_array}
use Rattle.wgsl_rules.proofs.lemmas.Known.{and-both}

pub record IsFixedMat (c r : ℕ) (t : Ty) : Type 0 where
  pub columns : is_from_2_to_4 c ≡ true
  pub rows : is_from_2_to_4 r ≡ true
  pub scalar : is_some (scalar_kind t) ≡ true
  pub sized : is_some (size_of (mat c r t)) ≡ true

pub fixed-mat : (c r : ℕ) (t : Ty) → has_fixed_layout (mat c r t) ≡ true → IsFixedMat c r t
fixed-mat c r t h =
    let one = and-both (is_from_2_to_4 c) (is_from_2_to_4 r && (is_some (scalar_kind t) && is_some (size_of (mat c r t)))) h in
    let two = and-both (is_from_2_to_4 r) (is_some (scalar_kind t) && is_some (size_of (mat c r t))) one.1 in
    let three = and-both (is_some (scalar_kind t)) (is_some (size_of (mat c r t))) two.1 in
    record { columns = one.0; rows = two.0; scalar = three.0; sized = three.1 }

pub record IsFixedArray (n : ℕ) (t : Ty) : Type 0 where
  pub count : nat_le 1 n ≡ true
  pub element : has_fixed_layout t ≡ true
  pub sized : is_some (size_of (array t (Some n))) ≡ true

pub fixed-array : (n : ℕ) (t : Ty) → has_fixed_layout (array t (Some n)) ≡ true → IsFixedArray n t
fixed-array n t h =
    let one = and-both (nat_le 1 n) (has_fixed_layout t && is_some (size_of (array t (Some n)))) h in
    let two = and-both (has_fixed_layout t) (is_some (size_of (array t (Some n)))) one.1 in
    record { count = one.0; element = two.0; sized = two.1 }

-- of a member of the type with these attributes, and of what follows it
pub record IsFixedFirst (t : Ty) (s a : Option ℕ) (follows : Bool) : Type 0 where
  pub fixed : has_fixed_layout t ≡ true
  pub attribute : is_size_valid s (size_of t) ≡ true
  pub aligned : is_align_valid a (align_of t) ≡ true
  pub rest : follows ≡ true

pub first-fixed : (t : Ty) (s a : Option ℕ) (follows : Bool) → ((has_fixed_layout t && are_attributes_valid t s a) && follows) ≡ true → IsFixedFirst t s a follows
first-fixed t s a follows h =
    let one = and-both (has_fixed_layout t && are_attributes_valid t s a) follows h in
    let two = and-both (has_fixed_layout t) (are_attributes_valid t s a) one.0 in
    let three = and-both (is_size_valid s (size_of t)) (is_align_valid a (align_of t)) two.1 in
    record { fixed = two.0; attribute = three.0; aligned = three.1; rest = one.1 }

-- a last member that is a runtime-sized array
pub last-runtime : (t : Ty) (s a from : Option ℕ) → (is_runtime_array t && (is_none s && is_align_valid a (align_of t)) && is_some (offset_after from (extent_in t s a))) ≡ true
    → (is_runtime_array t ≡ true) × (is_some (offset_after from (extent_in t s a)) ≡ true) × (is_align_valid a (align_of t) ≡ true)
last-runtime t s a from h =
    let one = and-both (is_runtime_array t && (is_none s && is_align_valid a (align_of t))) (is_some (offset_after from (extent_in t s a))) h in
    let two = and-both (is_runtime_array t) (is_none s && is_align_valid a (align_of t)) one.0 in
    let three = and-both (is_none s) (is_align_valid a (align_of t)) two.1 in
    (two.0, one.1, three.1)

-- ---- what has no runtime-sized array

pub no-runtime-matrix : (c : ℕ) (u : Ty) → has_runtime_layout (matrix_type c u) ≡ true → ⊥
no-runtime-matrix c (vec k t) h = false≢true h
no-runtime-matrix c u h = false≢true h

pub no-runtime-kind : (k : Kind) → has_runtime_layout (type_of_kind k) ≡ true → ⊥
no-runtime-kind kinds.abstract_int h = false≢true h
no-runtime-kind kinds.i32 h = false≢true h
no-runtime-kind kinds.u32 h = false≢true h
no-runtime-kind kinds.i64 h = false≢true h
no-runtime-kind kinds.u64 h = false≢true h

pub array-runtime : (t : Ty) → is_runtime_array t ≡ true → has_runtime_layout t ≡ true
array-runtime (struct name fs) h = absurd (false≢true h)
array-runtime t h = h
