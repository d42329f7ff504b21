-- What is known of the types that have a table: sizes, alignments and runtime-sized arrays.
use Rattle.std.proofs.Common.{◌≡◌, ℕ, ◌*◌, ◌^◌, ◌<◌, ◌≤◌, [], Option, Some, None, is_some, is_none, Bool, true, false, refl, sym, ap, ◌∙◌, subst, arith}
use Rattle.std.specs.Prelude.{◌&&◌, ◌||◌, nat_le, if◌then◌else◌, ◌==◌}
use Rattle.std.specs.Option.{option_or}
use Rattle.std.proofs.lemmas.Bool.{false≢true}
use Rattle.std.proofs.lemmas.Bool.Decides.{nat_tests}
use Rattle.std.proofs.lemmas.Option.{same_Some}
use Rattle.wgsl_rules.specs.Types as types
use Rattle.wgsl_rules.specs.Types.{Ty, struct, array, vec, mat, atomic, Fields, no_fields, field}
use Rattle.wgsl_rules.specs.Size.{size_of, align_of, round_up, vec_align, vec3_align, times, offset_after, end_after, end_of_members, extents, struct_align, extent_in}
use Rattle.wgsl_rules.specs.Layout.{amount, known_stride, stride, is_from_2_to_4, is_size_valid, is_align_valid, are_attributes_valid, Tail, tail_at, tail_of, last_tail}
use Rattle.wgsl_rules.proofs.lemmas.Known.{and-both, some-of, both-known, fits, fitting-is, times-known, rounded-known, stride-known, end-known, ends-known, end-later, unaligned}
use Rattle.wgsl_rules.proofs.lemmas.Tests.{product}
use Rattle.wgsl_nodes.specs.HostTypes.{is_scalar, has_fixed_nodes, have_fixed_nodes, is_runtime_array, end_in_runtime_array, has_runtime_nodes, has_nodes}
use Rattle.wgsl_nodes.specs.Nodes.{stride_of}

-- ---- scalars

pub record IsScalar (t : Ty) : Type 0 where
  pub size : ℕ
  pub size_is : size_of t ≡ Some size
  pub align_is : align_of t ≡ Some size
  pub some : 1 ≤ size
  pub few : size ≤ 8
  pub no_tail : tail_of t ≡ None

of-scalar : (t : Ty) (n : ℕ) → size_of t ≡ Some n → align_of t ≡ Some n → 1 ≤ n → n ≤ 8 → tail_of t ≡ None → IsScalar t
of-scalar t n s a l h e = record { size = n; size_is = s; align_is = a; some = l; few = h; no_tail = e }

pub scalar-is : (t : Ty) → is_scalar t ≡ true → IsScalar t
scalar-is types.i32 h = of-scalar types.i32 4 refl refl (omega arith) (omega arith) refl
scalar-is types.u32 h = of-scalar types.u32 4 refl refl (omega arith) (omega arith) refl
scalar-is types.f32 h = of-scalar types.f32 4 refl refl (omega arith) (omega arith) refl
scalar-is types.f16 h = of-scalar types.f16 2 refl refl (omega arith) (omega arith) refl
scalar-is types.i64 h = of-scalar types.i64 8 refl refl (omega arith) (omega arith) refl
scalar-is types.u64 h = of-scalar types.u64 8 refl refl (omega arith) (omega arith) refl
scalar-is types.f64 h = of-scalar types.f64 8 refl refl (omega arith) (omega arith) refl
scalar-is t h = absurd (false≢true h)

-- ---- the parts of what has a table

pub record IsVector (n : ℕ) (t : Ty) : Type 0 where
  pub count : is_from_2_to_4 n ≡ true
  pub scalar : is_scalar t ≡ true
  pub aligned : is_some (align_of (vec n t)) ≡ true

pub vector-is : (n : ℕ) (t : Ty) → has_fixed_nodes (vec n t) ≡ true → IsVector n t
vector-is n t h =
    let one = and-both (is_from_2_to_4 n) (is_scalar t && is_some (align_of (vec n t))) h in
    let two = and-both (is_scalar t) (is_some (align_of (vec n t))) one.1 in
    record { count = one.0; scalar = two.0; aligned = two.1 }

pub record IsMatrix (c r : ℕ) (t : Ty) : Type 0 where
  pub columns : is_from_2_to_4 c ≡ true
  pub rows : is_from_2_to_4 r ≡ true
  pub scalar : is_scalar t ≡ true
  pub sized : is_some (size_of (mat c r t)) ≡ true

pub matrix-is : (c r : ℕ) (t : Ty) → has_fixed_nodes (mat c r t) ≡ true → IsMatrix c r t
matrix-is c r t h =
    let one = and-both (is_from_2_to_4 c) (is_from_2_to_4 r && (is_scalar t && is_some (size_of (mat c r t)))) h in
    let two = and-both (is_from_2_to_4 r) (is_scalar t && is_some (size_of (mat c r t))) one.1 in
    let three = and-both (is_scalar t) (is_some (size_of (mat c r t))) two.1 in
    record { columns = one.0; rows = two.0; scalar = three.0; sized = three.1 }

pub record IsArray (n : ℕ) (t : Ty) : Type 0 where
  pub count : nat_le 1 n ≡ true
  pub element : has_fixed_nodes t ≡ true
  pub sized : is_some (size_of (array t (Some n))) ≡ true

pub array-is : (n : ℕ) (t : Ty) → has_fixed_nodes (array t (Some n)) ≡ true → IsArray n t
array-is n t h =
    let one = and-both (nat_le 1 n) (has_fixed_nodes t && is_some (size_of (array t (Some n)))) h in
    let two = and-both (has_fixed_nodes t) (is_some (size_of (array t (Some n)))) one.1 in
    record { count = one.0; element = two.0; sized = two.1 }

pub record IsFirst (t : Ty) (s a : Option ℕ) (follows : Bool) : Type 0 where
  pub fixed : has_fixed_nodes t ≡ true
  pub size_valid : is_size_valid s (size_of t) ≡ true
  pub align_valid : is_align_valid a (align_of t) ≡ true
  pub rest : follows ≡ true

pub first-is : (t : Ty) (s a : Option ℕ) (follows : Bool) → ((has_fixed_nodes t && are_attributes_valid t s a) && follows) ≡ true → IsFirst t s a follows
first-is t s a follows h =
    let one = and-both (has_fixed_nodes t && are_attributes_valid t s a) follows h in
    let two = and-both (has_fixed_nodes t) (are_attributes_valid t s a) one.0 in
    let three = and-both (is_size_valid s (size_of t)) (is_align_valid a (align_of t)) two.1 in
    record { fixed = two.0; size_valid = three.0; align_valid = three.1; rest = one.1 }

-- ---- sizes and alignments

pub record IsSized (t : Ty) : Type 0 where
  pub size : ℕ
  pub align : ℕ
  pub size_is : size_of t ≡ Some size
  pub align_is : align_of t ≡ Some align
  pub some : 1 ≤ size
  pub aligned : 1 ≤ align
  pub size_fits : size < 2 ^ 32

from-2 : (n : ℕ) → is_from_2_to_4 n ≡ true → (1 ≤ n) × (n ≤ 4)
from-2 n h =
    let both = and-both (nat_le 2 n) (nat_le n 4) h in
    let low = both.0 in let high = both.1 in
    (grind (arith, nat_tests), grind (arith, nat_tests))

small : (n s : ℕ) → n ≤ 4 → s ≤ 8 → n * s < 2 ^ 32
small n s h k = grind arith

vec3-positive : (t : Ty) (a : ℕ) → vec3_align t ≡ Some a → 1 ≤ a
vec3-positive types.i32 a e = let q = same_Some 16 a e in omega arith
vec3-positive types.u32 a e = let q = same_Some 16 a e in omega arith
vec3-positive types.f32 a e = let q = same_Some 16 a e in omega arith
vec3-positive types.f16 a e = let q = same_Some 8 a e in omega arith
vec3-positive types.i64 a e = let q = same_Some 32 a e in omega arith
vec3-positive types.u64 a e = let q = same_Some 32 a e in omega arith
vec3-positive t a e = absurd (cc)

vector-aligned : (n : ℕ) (t : Ty) (s a : ℕ) → 1 ≤ n → 1 ≤ s → vec_align n t (Some s) ≡ Some a → 1 ≤ a
vector-aligned n t s a h k e = by (n == 3) e
  where
    by : (b : Bool) → (if b then vec3_align t else times n (Some s)) ≡ Some a → 1 ≤ a
    by true e = vec3-positive t a e
    by false e = let f = (fitting-is (n * s) a e).0 in let p = product n s h k in omega arith

pub vector-sized : (n : ℕ) (t : Ty) (a : ℕ) → is_from_2_to_4 n ≡ true → is_scalar t ≡ true → align_of (vec n t) ≡ Some a → IsSized (vec n t)
vector-sized n t a c k e =
    let s = scalar-is t k in
    let two = from-2 n c in
    let low = two.0 in let high = two.1 in
    let some = s.some in let few = s.few in
    let below = small n s.size high few in
    record {
      size = n * s.size;
      align = a;
      size_is = ap (times n) s.size_is ∙ fits (n * s.size) below;
      align_is = e;
      some = product n s.size low some;
      aligned = vector-aligned n t s.size a low some (sym (ap (vec_align n t) s.size_is) ∙ e);
      size_fits = below;
    }

pub vector-size : (n : ℕ) (t : Ty) → is_from_2_to_4 n ≡ true → (k : is_scalar t ≡ true) → size_of (vec n t) ≡ Some (n * (scalar-is t k).size)
vector-size n t c k =
    let s = scalar-is t k in
    let high = (from-2 n c).1 in
    ap (times n) s.size_is ∙ fits (n * s.size) (small n s.size high s.few)

pub vector-fits : (n : ℕ) (t : Ty) → is_from_2_to_4 n ≡ true → (k : is_scalar t ≡ true) → n * (scalar-is t k).size < 2 ^ 32
vector-fits n t c k = small n (scalar-is t k).size (from-2 n c).1 (scalar-is t k).few

-- a member is no smaller than its type
pub member-size : (attribute : Option ℕ) (own : Option ℕ) (n s : ℕ) → own ≡ Some n → is_size_valid attribute own ≡ true → (extent_size : Option ℕ) → extent_size ≡ Some s → (extent_size ≡ elim attribute [ None ↦ own | Some k ↦ Some k ]) → n ≤ s
member-size None own n s is valid x e from = let q = same_Some n s (sym is ∙ sym from ∙ e) in omega arith
member-size (Some k) own n s is valid x e from =
    let q = same_Some k s (sym from ∙ e) in
    let at_least : nat_le n k ≡ true = subst (λ (o : Option ℕ). is_size_valid (Some k) o ≡ true) is valid in
    let le : n ≤ k = grind (arith, nat_tests) in
    omega arith

pub by-attribute : (attribute own : Option ℕ) → option_or attribute own ≡ elim attribute [ None ↦ own | Some k ↦ Some k ]
by-attribute None own = refl
by-attribute (Some k) own = refl

number-sized : (t : Ty) (n : ℕ) → size_of t ≡ Some n → align_of t ≡ Some n → 1 ≤ n → n < 2 ^ 32 → IsSized t
number-sized t n s a l h = record { size = n; align = n; size_is = s; align_is = a; some = l; aligned = l; size_fits = h }

pub fixed-sized : (t : Ty) → has_fixed_nodes t ≡ true → IsSized t
fixed-sized types.i32 h = number-sized types.i32 4 refl refl (omega arith) (omega arith)
fixed-sized types.u32 h = number-sized types.u32 4 refl refl (omega arith) (omega arith)
fixed-sized types.f32 h = number-sized types.f32 4 refl refl (omega arith) (omega arith)
fixed-sized types.f16 h = number-sized types.f16 2 refl refl (omega arith) (omega arith)
fixed-sized types.i64 h = number-sized types.i64 8 refl refl (omega arith) (omega arith)
fixed-sized types.u64 h = number-sized types.u64 8 refl refl (omega arith) (omega arith)
fixed-sized types.f64 h = number-sized types.f64 8 refl refl (omega arith) (omega arith)
fixed-sized (atomic t) h = number-sized (atomic t) 4 refl refl (omega arith) (omega arith)
fixed-sized (vec n t) h =
    let v = vector-is n t h in
    let a = some-of (align_of (vec n t)) v.aligned in
    vector-sized n t a.0 v.count v.scalar a.1
fixed-sized (mat c r t) h =
    let m = matrix-is c r t h in
    let s = some-of (size_of (mat c r t)) m.sized in
    let k = times-known c (align_of (vec r t)) s.0 s.1 in
    let v = vector-sized r t k.0 m.rows m.scalar k.1 in
    let low = (from-2 c m.columns).0 in
    let same : v.align ≡ k.0 = same_Some v.align k.0 (sym v.align_is ∙ k.1) in
    let one = v.aligned in
    let some = product c k.0 low (omega arith) in
    let eq = k.2 in
    record {
      size = s.0;
      align = k.0;
      size_is = s.1;
      align_is = k.1;
      some = omega arith;
      aligned = omega arith;
      size_fits = let below = (fitting-is (c * k.0) s.0 (ap (times c) (sym k.1) ∙ s.1)).1 in omega arith;
    }
fixed-sized (array t (Some n)) h =
    let a = array-is n t h in
    let own = fixed-sized t a.element in
    let s = some-of (size_of (array t (Some n))) a.sized in
    let k = times-known n (known_stride t) s.0 s.1 in
    let st = stride-known (align_of t) (size_of t) k.0 k.1 in
    let le = st.2 in
    let same : own.size ≡ st.0 = same_Some own.size st.0 (sym own.size_is ∙ st.1) in
    let one = own.some in
    let count : 1 ≤ n = let f = a.count in grind (arith, nat_tests) in
    let p = product n k.0 count (omega arith) in
    let eq = k.2 in
    record {
      size = s.0;
      align = own.align;
      size_is = s.1;
      align_is = own.align_is;
      some = omega arith;
      aligned = own.aligned;
      size_fits = let below = (fitting-is (n * k.0) s.0 (ap (times n) (sym k.1) ∙ s.1)).1 in omega arith;
    }
fixed-sized (array t None) h = absurd (false≢true h)
fixed-sized (struct name no_fields) h =
    let both = and-both (have_fixed_nodes no_fields) (is_some (size_of (struct name no_fields))) h in
    let s = some-of (size_of (struct name no_fields)) both.1 in
    let b = both-known round_up (struct_align []) (end_of_members (Some 0) []) s.0 s.1 in
    let zero : 0 ≡ b.0 = same_Some 0 b.0 b.2 in
    absurd (unaligned b.1 s.0 (rw (← zero) at b.4))
fixed-sized (struct name (field n t z a fs)) h =
    let both = and-both (have_fixed_nodes (field n t z a fs)) (is_some (size_of (struct name (field n t z a fs)))) h in
    let made = first-is t z a (have_fixed_nodes fs) both.0 in
    let s = some-of (size_of (struct name (field n t z a fs))) both.1 in
    let b = both-known round_up (struct_align (extents (field n t z a fs))) (end_of_members (Some 0) (extents (field n t z a fs))) s.0 s.1 in
    let r = rounded-known b.0 b.1 s.0 b.4 in
    let later = r.later in
    let x = ends-known (end_after (Some 0) (extent_in t z a)) (extents fs) b.1 b.3 in
    let k = end-known 0 (extent_in t z a) x.0 x.1 in
    let rest = end-later (extents fs) x.0 b.1 (ap (λ (o : Option ℕ). end_of_members o (extents fs)) (sym x.1) ∙ b.3) in
    let own = fixed-sized t made.fixed in
    let less = member-size z (size_of t) own.size k.1 own.size_is made.size_valid (extent_in t z a).size k.3 (by-attribute z (size_of t)) in
    let one = own.some in
    let eq = k.5 in
    record {
      size = s.0;
      align = b.0;
      size_is = s.1;
      align_is = b.2;
      some = omega arith;
      aligned = r.positive;
      size_fits = r.fits;
    }
fixed-sized t h = absurd (false≢true h)

-- ---- runtime-sized arrays

pub fixed-tail_at : (t : Ty) (o : ℕ) → has_fixed_nodes t ≡ true → tail_at o t ≡ None
fixed-tail_at (array t None) o h = absurd (false≢true h)
fixed-tail_at t o h = refl

fixed-last : (fs : Fields) (from : Option ℕ) → have_fixed_nodes fs ≡ true → last_tail None from fs ≡ None
fixed-last no_fields from h = refl
fixed-last (field name t s a fs) from h =
    let f = first-is t s a (have_fixed_nodes fs) h in
    ap (λ (o : Option Tail). last_tail o (end_after from (extent_in t s a)) fs) (fixed-tail_at t (amount (offset_after from (extent_in t s a))) f.fixed)
    ∙ fixed-last fs (end_after from (extent_in t s a)) f.rest

pub fixed-tail : (t : Ty) → has_fixed_nodes t ≡ true → tail_of t ≡ None
fixed-tail (struct name fs) h = fixed-last fs (Some 0) (and-both (have_fixed_nodes fs) (is_some (size_of (struct name fs))) h).0
fixed-tail (array t None) h = absurd (false≢true h)
fixed-tail t h = refl

pub runtime-stride : (t : Ty) (o : ℕ) → is_runtime_array t ≡ true → 0 < stride_of (tail_at o t)
runtime-stride (array t None) o h =
    let both = and-both (has_fixed_nodes t) (is_some (known_stride t)) h in
    let own = fixed-sized t both.0 in
    let g = some-of (known_stride t) both.1 in
    let st = stride-known (align_of t) (size_of t) g.0 g.1 in
    let same : own.size ≡ st.0 = same_Some own.size st.0 (sym own.size_is ∙ st.1) in
    let one = own.some in
    let le = st.2 in
    let is : stride t ≡ g.0 = ap amount g.1 in
    omega arith
runtime-stride t o h = absurd (false≢true h)

-- a last member that is a runtime-sized array
pub record IsLastRuntime (t : Ty) (s a from : Option ℕ) : Type 0 where
  pub runtime : is_runtime_array t ≡ true
  pub unsized : is_none s ≡ true
  pub align_valid : is_align_valid a (align_of t) ≡ true
  pub placed : is_some (offset_after from (extent_in t s a)) ≡ true

pub last-runtime : (t : Ty) (s a from : Option ℕ) → ((is_runtime_array t && (is_none s && is_align_valid a (align_of t))) && is_some (offset_after from (extent_in t s a))) ≡ true → IsLastRuntime t s a from
last-runtime t s a from h =
    let one = and-both (is_runtime_array t && (is_none s && is_align_valid a (align_of t))) (is_some (offset_after from (extent_in t s a))) h in
    let two = and-both (is_runtime_array t) (is_none s && is_align_valid a (align_of t)) one.0 in
    let three = and-both (is_none s) (is_align_valid a (align_of t)) two.1 in
    record { runtime = two.0; unsized = three.0; align_valid = three.1; placed = one.1 }

last-stride : (fs : Fields) (from : Option ℕ) (found : Option Tail) → end_in_runtime_array from fs ≡ true → 0 < stride_of (last_tail found from fs)
last-stride no_fields from found h = absurd (false≢true h)
last-stride (field name t z g no_fields) from found h =
    runtime-stride t (amount (offset_after from (extent_in t z g))) (last-runtime t z g from h).runtime
last-stride (field name t z g (field n u y k fs)) from found h =
    last-stride (field n u y k fs) (end_after from (extent_in t z g)) (tail_at (amount (offset_after from (extent_in t z g))) t)
    (first-is t z g (end_in_runtime_array (end_after from (extent_in t z g)) (field n u y k fs)) h).rest

pub runtime-tail : (t : Ty) → has_runtime_nodes t ≡ true → 0 < stride_of (tail_of t)
runtime-tail (struct name fs) h = last-stride fs (Some 0) None h
runtime-tail (array t None) h = runtime-stride (array t None) 0 h
runtime-tail t h = absurd (false≢true h)

-- a type that has a table and no runtime-sized array is of a fixed size
pub no-tail-fixed : (t : Ty) → has_nodes t ≡ true → stride_of (tail_of t) ≡ 0 → has_fixed_nodes t ≡ true
no-tail-fixed t h e = by (has_fixed_nodes t) h
  where
    by : (b : Bool) → (b || has_runtime_nodes t) ≡ true → b ≡ true
    by true f = refl
    by false f = let some = runtime-tail t f in absurd (omega arith)
