-- A fixed layout has a size of one byte at least, and so has the stride of a runtime-sized array.
use Rattle.std.proofs.Common.{◌≡◌, ℕ, ◌<◌, ◌≤◌, [], Option, Some, None, is_some, Bool, true, false, refl, sym, ap, ◌∙◌, subst, arith}
use Rattle.std.specs.Prelude.{◌||◌, MatchOption, ⊤}
use Rattle.std.proofs.lemmas.Bool.{false≢true}
use Rattle.std.proofs.lemmas.Bool.Decides.{nat_tests}
use Rattle.std.proofs.lemmas.Option.{same_Some}
use Rattle.wgsl_rules.specs.Kinds as kinds
use Rattle.wgsl_rules.specs.Kinds.{Kind, bytes_of}
use Rattle.wgsl_rules.specs.Types as types
use Rattle.wgsl_rules.specs.Types.{Ty, struct, array, vec, mat, atomic, Fields, no_fields, field}
use Rattle.wgsl_rules.specs.Size.{size_of, align_of, round_up, offset_after, end_after, end_of_members, extents, struct_align, extent_in}
use Rattle.wgsl_rules.specs.Layout.{amount, size, known_stride, stride, scalar_kind, is_from_2_to_4, has_fixed_layout, have_fixed_layouts, is_runtime_array, end_in_runtime_array, has_runtime_layout, has_layout, Tail, tail_at, tail_of, last_tail, length_in, layout}
use Rattle.wgsl_rules.proofs.lemmas.Known.{and-both, some-of, both-known, times-known, rounded-known, stride-known, end-known, ends-known, end-later, unaligned}
use Rattle.wgsl_rules.proofs.lemmas.Tests.{product}
use Rattle.wgsl_layout.proofs.lemmas.Fixed.{first-fixed, fixed-array, fixed-mat, last-runtime}
use Rattle.wgsl_layout.proofs.lemmas.Tidy.{scalar-is, vector-is, attribute-holds, fixed-length, fixed-tidy}

kind-bytes : (k : Kind) → 1 ≤ bytes_of k
kind-bytes kinds.abstract_int = omega arith
kind-bytes kinds.i32 = omega arith
kind-bytes kinds.u32 = omega arith
kind-bytes kinds.i64 = omega arith
kind-bytes kinds.u64 = omega arith

from-2 : (n : ℕ) → is_from_2_to_4 n ≡ true → 1 ≤ n
from-2 n h = grind (arith, nat_tests)

vector-positive : (n k : ℕ) (t : Ty) (s : ℕ) → is_from_2_to_4 k ≡ true → is_some (scalar_kind t) ≡ true → size_of (vec k t) ≡ Some s → 1 ≤ s
vector-positive n k t s ck ct e =
    let g = some-of (scalar_kind t) ct in
    let sc = scalar-is t g.0 g.1 in
    let m = times-known k (size_of t) s e in
    let same : bytes_of g.0 ≡ m.0 = same_Some (bytes_of g.0) m.0 (sym sc.sized ∙ m.1) in
    let one = kind-bytes g.0 in
    let p = product k m.0 (from-2 k ck) (omega arith) in
    let eq = m.2 in
    omega arith

fixed-known : (t : Ty) → has_fixed_layout t ≡ true → (s : ℕ) × (size_of t ≡ Some s)
fixed-known t h = let g = fixed-tidy t 0 h in (length_in (layout 0 t), g.1)

pub positive : (t : Ty) (s : ℕ) → has_fixed_layout t ≡ true → size_of t ≡ Some s → 1 ≤ s
positive types.i32 s h e = let q = same_Some 4 s e in omega arith
positive types.u32 s h e = let q = same_Some 4 s e in omega arith
positive types.i64 s h e = let q = same_Some 8 s e in omega arith
positive types.u64 s h e = let q = same_Some 8 s e in omega arith
positive (atomic t) s h e = let q = same_Some 4 s e in omega arith
positive (vec k t) s h e =
    let both = and-both (is_from_2_to_4 k) (is_some (scalar_kind t)) h in
    vector-positive 0 k t s both.0 both.1 e
positive (mat c r t) s h e =
    let made = fixed-mat c r t h in
    let m = times-known c (align_of (vec r t)) s e in
    let v = vector-is 0 r t made.rows made.scalar in
    let size_one = vector-positive 0 r t (size (vec r t)) made.rows made.scalar v.sized in
    let le = v.below_align m.0 m.1 in
    let p = product c m.0 (from-2 c made.columns) (omega arith) in
    let eq = m.2 in
    omega arith
positive (array t (Some k)) s h e =
    let made = fixed-array k t h in
    let m = times-known k (known_stride t) s e in
    let st = stride-known (align_of t) (size_of t) m.0 m.1 in
    let p1 = positive t st.0 made.element st.1 in
    let le = st.2 in
    let count : 1 ≤ k = let f = made.count in grind (arith, nat_tests) in
    let p = product k m.0 count (omega arith) in
    let eq = m.2 in
    omega arith
positive (array t None) s h e = absurd (false≢true h)
positive (struct name no_fields) s h e =
    let b = both-known round_up (struct_align []) (end_of_members (Some 0) []) s e in
    let zero : 0 ≡ b.0 = same_Some 0 b.0 b.2 in
    absurd (unaligned b.1 s (rw (← zero) at b.4))
positive (struct name (field n t sz a fs)) s h e =
    let both = and-both (have_fixed_layouts (field n t sz a fs)) (is_some (size_of (struct name (field n t sz a fs)))) h in
    let made = first-fixed t sz a (have_fixed_layouts fs) both.0 in
    let b = both-known round_up (struct_align (extents (field n t sz a fs))) (end_of_members (Some 0) (extents (field n t sz a fs))) s e in
    let le = (rounded-known b.0 b.1 s b.4).later in
    let x = ends-known (end_after (Some 0) (extent_in t sz a)) (extents fs) b.1 b.3 in
    let k = end-known 0 (extent_in t sz a) x.0 x.1 in
    let rest = end-later (extents fs) x.0 b.1 (ap (λ (o : Option ℕ). end_of_members o (extents fs)) (sym x.1) ∙ b.3) in
    let g = fixed-known t made.fixed in
    let own = positive t g.0 made.fixed g.1 in
    let less = attribute-holds sz (size_of t) g.0 k.1 made.attribute g.1 k.3 in
    let eq = k.5 in
    omega arith
positive t s h e = absurd (false≢true h)

-- ---- strides

runtime-stride : (t : Ty) (o : ℕ) → is_runtime_array t ≡ true → MatchOption (tail_at o t) ⊤ (λ r. 0 < stride r.element)
runtime-stride (array t None) o h =
    let both = and-both (has_fixed_layout t) (is_some (known_stride t)) h in
    let g = some-of (known_stride t) both.1 in
    let st = stride-known (align_of t) (size_of t) g.0 g.1 in
    let one = positive t st.0 both.0 st.1 in
    let le = st.2 in
    let is : stride t ≡ g.0 = ap amount g.1 in
    omega arith
runtime-stride t o h = absurd (false≢true h)

last-stride : (fs : Fields) (from : Option ℕ) (found : Option Tail) → end_in_runtime_array from fs ≡ true → MatchOption (last_tail found from fs) ⊤ (λ r. 0 < stride r.element)
last-stride no_fields from found h = absurd (false≢true h)
last-stride (field name t z g no_fields) from found h =
    runtime-stride t (amount (offset_after from (extent_in t z g))) (last-runtime t z g from h).0
last-stride (field name t z g (field n u y k fs)) from found h =
    last-stride (field n u y k fs) (end_after from (extent_in t z g)) (tail_at (amount (offset_after from (extent_in t z g))) t)
    (first-fixed t z g (end_in_runtime_array (end_after from (extent_in t z g)) (field n u y k fs)) h).rest

pub tail-stride : (t : Ty) → has_layout t ≡ true → MatchOption (tail_of t) ⊤ (λ r. 0 < stride r.element)
tail-stride t h = by (has_fixed_layout t) refl h
  where
    runtime : (t : Ty) → has_runtime_layout t ≡ true → MatchOption (tail_of t) ⊤ (λ r. 0 < stride r.element)
    runtime (struct name fs) h = last-stride fs (Some 0) None h
    runtime (array t None) h = runtime-stride (array t None) 0 h
    runtime t h = absurd (false≢true h)

    by : (b : Bool) → has_fixed_layout t ≡ b → (b || has_runtime_layout t) ≡ true → MatchOption (tail_of t) ⊤ (λ r. 0 < stride r.element)
    by true f h = subst (λ (o : Option Tail). MatchOption o ⊤ (λ r. 0 < stride r.element)) (sym (fixed-length t 0 f)) tt
    by false f h = runtime t h
