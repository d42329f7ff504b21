-- A type that has a layout has a table.
use Rattle.std.proofs.Common.{◌≡◌, ℕ, zero, suc, Option, Some, None, is_some, is_none, Bool, true, false, refl, ap, arith}
use Rattle.std.specs.Prelude.{nat_le, ◌&&◌, ◌||◌}
use Rattle.std.proofs.lemmas.Bool.{false≢true}
use Rattle.wgsl_rules.specs.Types as types
use Rattle.wgsl_rules.specs.Types.{Ty, struct, array, vec, mat, atomic, Fields, no_fields, field}
use Rattle.wgsl_rules.specs.Size.{size_of, align_of, extent_in, offset_after, end_after}
use Rattle.wgsl_rules.specs.Layout as rules
use Rattle.wgsl_rules.specs.Layout.{scalar_kind, known_stride, is_from_2_to_4, is_align_valid, are_attributes_valid, has_fixed_layout, have_fixed_layouts, has_runtime_layout, has_layout, have_none}
use Rattle.wgsl_rules.proofs.lemmas.Known.{and-both}
use Rattle.wgsl_rules.proofs.lemmas.Tests.{both}
use Rattle.wgsl_nodes.specs.HostTypes as nodes
use Rattle.wgsl_nodes.specs.HostTypes.{is_scalar, has_fixed_nodes, have_fixed_nodes, has_runtime_nodes, has_nodes}
use Rattle.wgsl_layout.proofs.lemmas.Tidy.{counts}
use Rattle.wgsl_layout.proofs.lemmas.Fixed.{fixed-array, fixed-mat}

scalar-host : (t : Ty) → is_some (scalar_kind t) ≡ true → is_scalar t ≡ true
scalar-host types.i32 h = refl
scalar-host types.u32 h = refl
scalar-host types.i64 h = refl
scalar-host types.u64 h = refl
scalar-host t h = absurd (false≢true h)

-- vectors of such scalars have an alignment
aligned : (n : ℕ) (t : Ty) → is_from_2_to_4 n ≡ true → is_some (scalar_kind t) ≡ true → is_some (align_of (vec n t)) ≡ true
aligned zero t h k = absurd (false≢true h)
aligned (suc zero) t h k = absurd (false≢true h)
aligned (suc (suc zero)) t h k = two t k
  where
    two : (t : Ty) → is_some (scalar_kind t) ≡ true → is_some (align_of (vec 2 t)) ≡ true
    two types.i32 k = refl
    two types.u32 k = refl
    two types.i64 k = refl
    two types.u64 k = refl
    two t k = absurd (false≢true k)
aligned (suc (suc (suc zero))) t h k = three t k
  where
    three : (t : Ty) → is_some (scalar_kind t) ≡ true → is_some (align_of (vec 3 t)) ≡ true
    three types.i32 k = refl
    three types.u32 k = refl
    three types.i64 k = refl
    three types.u64 k = refl
    three t k = absurd (false≢true k)
aligned (suc (suc (suc (suc zero)))) t h k = four t k
  where
    four : (t : Ty) → is_some (scalar_kind t) ≡ true → is_some (align_of (vec 4 t)) ≡ true
    four types.i32 k = refl
    four types.u32 k = refl
    four types.i64 k = refl
    four types.u64 k = refl
    four t k = absurd (false≢true k)
aligned (suc (suc (suc (suc (suc n))))) t h k = let c = counts (suc (suc (suc (suc (suc n))))) h in absurd (omega (arith, c.1))

atomic-host : (t : Ty) → is_some (rules.atomic_kind t) ≡ true → has_fixed_nodes (atomic t) ≡ true
atomic-host types.i32 h = refl
atomic-host types.u32 h = refl
atomic-host t h = absurd (false≢true h)

mutual
  pub fixed-host : (t : Ty) → has_fixed_layout t ≡ true → has_fixed_nodes t ≡ true
  fixed-host types.i32 h = refl
  fixed-host types.u32 h = refl
  fixed-host types.i64 h = refl
  fixed-host types.u64 h = refl
  fixed-host (atomic t) h = atomic-host t h
  fixed-host (vec n t) h =
      let k = and-both (is_from_2_to_4 n) (is_some (scalar_kind t)) h in
      both (is_from_2_to_4 n) (is_scalar t && is_some (align_of (vec n t))) k.0 (both (is_scalar t) (is_some (align_of (vec n t))) (scalar-host t k.1) (aligned n t k.0 k.1))
  fixed-host (mat c r t) h =
      let k = fixed-mat c r t h in
      both (is_from_2_to_4 c) (is_from_2_to_4 r && (is_scalar t && is_some (size_of (mat c r t)))) k.columns
      (both (is_from_2_to_4 r) (is_scalar t && is_some (size_of (mat c r t))) k.rows (both (is_scalar t) (is_some (size_of (mat c r t))) (scalar-host t k.scalar) k.sized))
  fixed-host (array t (Some n)) h =
      let k = fixed-array n t h in
      both (nat_le 1 n) (has_fixed_nodes t && is_some (size_of (array t (Some n)))) k.count (both (has_fixed_nodes t) (is_some (size_of (array t (Some n)))) (fixed-host t k.element) k.sized)
  fixed-host (struct name fs) h =
      let k = and-both (have_fixed_layouts fs) (is_some (size_of (struct name fs))) h in
      both (have_fixed_nodes fs) (is_some (size_of (struct name fs))) (fields-host fs k.0) k.1
  fixed-host t h = absurd (false≢true h)

  fields-host : (fs : Fields) → have_fixed_layouts fs ≡ true → have_fixed_nodes fs ≡ true
  fields-host no_fields h = refl
  fields-host (field name t s a fs) h =
      let k = and-both (has_fixed_layout t && are_attributes_valid t s a) (have_fixed_layouts fs) h in
      let l = and-both (has_fixed_layout t) (are_attributes_valid t s a) k.0 in
      both (has_fixed_nodes t && are_attributes_valid t s a) (have_fixed_nodes fs) (both (has_fixed_nodes t) (are_attributes_valid t s a) (fixed-host t l.0) l.1) (fields-host fs k.1)

array-host : (t : Ty) → rules.is_runtime_array t ≡ true → nodes.is_runtime_array t ≡ true
array-host (array t None) h =
    let k = and-both (has_fixed_layout t) (is_some (known_stride t)) h in
    both (has_fixed_nodes t) (is_some (known_stride t)) (fixed-host t k.0) k.1
array-host t h = absurd (false≢true h)

open-host : (fs : Fields) (from : Option ℕ) → rules.end_in_runtime_array from fs ≡ true → nodes.end_in_runtime_array from fs ≡ true
open-host no_fields from h = absurd (false≢true h)
open-host (field name t s a no_fields) from h =
    let k = and-both (rules.is_runtime_array t && (is_none s && is_align_valid a (align_of t))) (is_some (offset_after from (extent_in t s a))) h in
    let l = and-both (rules.is_runtime_array t) (is_none s && is_align_valid a (align_of t)) k.0 in
    both (nodes.is_runtime_array t && (is_none s && is_align_valid a (align_of t))) (is_some (offset_after from (extent_in t s a)))
    (both (nodes.is_runtime_array t) (is_none s && is_align_valid a (align_of t)) (array-host t l.0) l.1) k.1
open-host (field name t s a (field m u z b fs)) from h =
    let k = and-both (has_fixed_layout t && are_attributes_valid t s a) (rules.end_in_runtime_array (end_after from (extent_in t s a)) (field m u z b fs)) h in
    let l = and-both (has_fixed_layout t) (are_attributes_valid t s a) k.0 in
    both (has_fixed_nodes t && are_attributes_valid t s a) (nodes.end_in_runtime_array (end_after from (extent_in t s a)) (field m u z b fs)) (both (has_fixed_nodes t) (are_attributes_valid t s a) (fixed-host t l.0) l.1)
    (open-host (field m u z b fs) (end_after from (extent_in t s a)) k.1)

runtime-host : (t : Ty) → has_runtime_layout t ≡ true → has_runtime_nodes t ≡ true
runtime-host (struct name fs) h = open-host fs (Some 0) h
runtime-host (array t None) h = array-host (array t None) h
runtime-host t h = absurd (false≢true h)

pub host : (t : Ty) → has_layout t ≡ true → has_nodes t ≡ true
host t h = by (has_fixed_layout t) refl h
  where
    either : (a b : Bool) → b ≡ true → (a || b) ≡ true
    either true b k = refl
    either false b k = k

    by : (b : Bool) → has_fixed_layout t ≡ b → (b || has_runtime_layout t) ≡ true → has_nodes t ≡ true
    by true e k = ap (λ (b : Bool). b || has_runtime_nodes t) (fixed-host t e)
    by false e k = either (has_fixed_nodes t) (has_runtime_nodes t) (runtime-host t k)
