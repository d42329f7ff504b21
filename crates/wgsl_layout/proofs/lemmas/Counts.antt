-- How many elements a buffer has room for: as many as its value has.
use Rattle.std.proofs.Common.{◌≡◌, ℕ, zero, suc, ◌+◌, ◌-◌, ◌*◌, ◌/◌, ◌<◌, ◌≤◌, Option, Some, None, is_some, Bool, true, false, refl, sym, ap, ◌∙◌, arith}
use Rattle.std.specs.Prelude.{nat_le, ◌||◌, MatchOption, ⊤, if◌then◌else◌}
use Rattle.std.proofs.lemmas.Bool.{false≢true}
use Rattle.std.proofs.lemmas.Bool.Decides.{nat_tests}
use lib.Arith.{digits_div}
use Rattle.wgsl_rules.specs.Types.{Ty, struct, array, Fields, no_fields, field}
use Rattle.wgsl_rules.specs.Values.{Val, truth, number, record_of, array_of, vector, matrix, atomic_of, pointer, reference, deferred, Vals, no_vals, val, count, type_of, type_of_kind, first_type, matrix_type, HaveTypes, IsStorable, AreStorable}
use Rattle.wgsl_rules.specs.Size.{size_of, offset_after, end_after, extent_in}
use Rattle.wgsl_rules.specs.Layout.{size, stride, amount, has_fixed_layout, have_fixed_layouts, is_runtime_array, end_in_runtime_array, has_runtime_layout, has_layout, Tail, tail_at, tail_of, last_tail, layout_len, at_least_one, count_in, elements, last_elements, runtime_count, count_with, length_with}
use Rattle.wgsl_rules.proofs.lemmas.Known.{and-both}
use Rattle.wgsl_layout.proofs.lemmas.Fixed.{array-runtime, first-fixed, last-runtime, no-runtime-kind, no-runtime-matrix}
use Rattle.wgsl_layout.proofs.lemmas.Tidy.{fixed-length, length-fixed}

-- ---- no elements in a value of a fixed layout

elements-fixed : (v : Val) → has_fixed_layout (type_of v) ≡ true → elements v ≡ 0
elements-fixed (array_of true vs) h = absurd (false≢true h)
elements-fixed (array_of false vs) h = refl
elements-fixed v h = refl

last-fixed : (fs : Fields) (vs : Vals) (m : ℕ) → m ≡ 0 → HaveTypes fs vs → have_fixed_layouts fs ≡ true → last_elements m vs ≡ 0
last-fixed no_fields no_vals m e a h = e
last-fixed no_fields (val v vs) m e a h = absurd a
last-fixed (field name t s g fs) no_vals m e a h = absurd a
last-fixed (field name t s g fs) (val v vs) m e a h =
    let made = first-fixed t s g (have_fixed_layouts fs) h in
    last-fixed fs vs (elements v) (elements-fixed v (ap has_fixed_layout a.0 ∙ made.fixed)) a.1 made.rest

pub count-fixed : (v : Val) → IsStorable v → has_fixed_layout (type_of v) ≡ true → runtime_count v ≡ 0
count-fixed (record_of (struct name fs) vs) s h = last-fixed fs vs 0 refl s.0 (and-both (have_fixed_layouts fs) (is_some (size_of (struct name fs))) h).0
count-fixed (record_of t vs) s h = absurd (s.0)
count-fixed (array_of true vs) s h = absurd (false≢true h)
count-fixed (array_of false vs) s h = refl
count-fixed v s h = refl

-- ---- one element at least in a value of a layout with a runtime-sized array

elements-some : (v : Val) → IsStorable v → is_runtime_array (type_of v) ≡ true → 1 ≤ elements v
elements-some (truth b) s h = absurd (false≢true h)
elements-some (number k z) s h = absurd (no-runtime-kind k (array-runtime (type_of_kind k) h))
elements-some (record_of (struct name fs) vs) s h = absurd (false≢true h)
elements-some (record_of t vs) s h = absurd (s.0)
elements-some (array_of true vs) s h = omega (arith, s.0)
elements-some (array_of false vs) s h = absurd (false≢true h)
elements-some (vector vs) s h = absurd (false≢true h)
elements-some (matrix vs) s h = absurd (no-runtime-matrix (count vs) (first_type vs) (array-runtime (matrix_type (count vs) (first_type vs)) h))
elements-some (atomic_of v) s h = absurd (false≢true h)
elements-some (pointer r) s h = absurd (false≢true h)
elements-some (reference r) s h = absurd (false≢true h)
elements-some (deferred t) s h = absurd s

last-some : (fs : Fields) (vs : Vals) (m : ℕ) (from : Option ℕ) → HaveTypes fs vs → AreStorable vs → end_in_runtime_array from fs ≡ true → 1 ≤ last_elements m vs
last-some no_fields vs m from a s h = absurd (false≢true h)
last-some (field name t z g fs) no_vals m from a s h = absurd a
last-some (field name t z g no_fields) (val v no_vals) m from a s h =
    let runtime = (last-runtime t z g from h).0 in
    elements-some v s.0 (ap is_runtime_array a.0 ∙ runtime)
last-some (field name t z g no_fields) (val v (val w vs)) m from a s h = absurd (a.1)
last-some (field name t z g (field n u y k fs)) (val v vs) m from a s h =
    let made = first-fixed t z g (end_in_runtime_array (end_after from (extent_in t z g)) (field n u y k fs)) h in
    last-some (field n u y k fs) vs (elements v) (end_after from (extent_in t z g)) a.1 s.1 made.rest

pub count-some : (v : Val) → IsStorable v → has_runtime_layout (type_of v) ≡ true → 1 ≤ runtime_count v
count-some (truth b) s h = absurd (false≢true h)
count-some (number k z) s h = absurd (no-runtime-kind k h)
count-some (record_of (struct name fs) vs) s h = last-some fs vs 0 (Some 0) s.0 s.1 h
count-some (record_of t vs) s h = absurd (s.0)
count-some (array_of true vs) s h = omega (arith, s.0)
count-some (array_of false vs) s h = absurd (false≢true h)
count-some (vector vs) s h = absurd (false≢true h)
count-some (matrix vs) s h = absurd (no-runtime-matrix (count vs) (first_type vs) h)
count-some (atomic_of v) s h = absurd (false≢true h)
count-some (pointer r) s h = absurd (false≢true h)
count-some (reference r) s h = absurd (false≢true h)
count-some (deferred t) s h = absurd s

-- ---- the tail

last-there : (fs : Fields) (from : Option ℕ) (found : Option Tail) → end_in_runtime_array from fs ≡ true → is_some (last_tail found from fs) ≡ true
last-there no_fields from found h = absurd (false≢true h)
last-there (field name t z g no_fields) from found h = by t (last-runtime t z g from h).0
  where
    by : (u : Ty) → is_runtime_array u ≡ true → is_some (tail_at (amount (offset_after from (extent_in t z g))) u) ≡ true
    by (array u None) h = refl
    by u h = absurd (false≢true h)
last-there (field name t z g (field n u y k fs)) from found h =
    let made = first-fixed t z g (end_in_runtime_array (end_after from (extent_in t z g)) (field n u y k fs)) h in
    last-there (field n u y k fs) (end_after from (extent_in t z g)) (tail_at (amount (offset_after from (extent_in t z g))) t) made.rest

pub tail-there : (t : Ty) → has_runtime_layout t ≡ true → is_some (tail_of t) ≡ true
tail-there (struct name fs) h = last-there fs (Some 0) None h
tail-there (array t None) h = refl
tail-there t h = absurd (false≢true h)

-- ---- the count

-- in so many bytes there is room for n elements and a part of another
room : (len n m : ℕ) (r : Tail) → len ≡ r.start + n * stride r.element + m → m < stride r.element → 1 ≤ n → (if nat_le r.start len then at_least_one ((len - r.start) / stride r.element) else None) ≡ Some n
room len n m r e lt one =
    let t : nat_le r.start len ≡ true = grind (arith, nat_tests) in
    let d : len - r.start ≡ n * stride r.element + m = omega arith in
    let q : (n * stride r.element + m) / stride r.element ≡ n = digits_div n lt in
    rw (t, d, q) (some n one)
  where
    some : (n : ℕ) → 1 ≤ n → at_least_one n ≡ Some n
    some zero h = absurd (omega arith)
    some (suc n) h = refl

pub counted-in : (v : Val) (m len : ℕ) → IsStorable v → has_layout (type_of v) ≡ true → len ≡ layout_len (runtime_count v) (type_of v) + m
    → MatchOption (tail_of (type_of v)) ⊤ (λ r. m < stride r.element) → count_in len (type_of v) ≡ Some (runtime_count v)
counted-in v m len s h e few = by (has_fixed_layout (type_of v)) refl h
  where
    t : Ty
    t = type_of v

    n : ℕ
    n = runtime_count v

    fixed : has_fixed_layout t ≡ true → count_in len t ≡ Some n
    fixed f =
        let none = fixed-length t n f in
        let is = length-fixed n t none in
        let enough : nat_le (size t) len ≡ true = let le : size t ≤ len = omega arith in grind (arith, nat_tests) in
        let zero_count = count-fixed v s f in
        ap (count_with len (size t)) none
        ∙ ap (λ (b : Bool). if b then Some 0 else None) enough ∙ ap Some (sym zero_count)

    runtime : has_runtime_layout t ≡ true → (o : Option Tail) → tail_of t ≡ o → MatchOption o ⊤ (λ r. m < stride r.element) → count_in len t ≡ Some n
    runtime g None is few = absurd (false≢true (ap (λ (o : Option Tail). is_some o) (sym is) ∙ tail-there t g))
    runtime g (Some r) is few =
        let l : layout_len n t ≡ r.start + n * stride r.element = ap (length_with n (size t)) is in
        ap (count_with len (size t)) is
        ∙ room len n m r (omega arith) few (count-some v s g)

    by : (b : Bool) → has_fixed_layout t ≡ b → (b || has_runtime_layout t) ≡ true → count_in len t ≡ Some n
    by true f h = fixed f
    by false f h = runtime h (tail_of t) refl few
