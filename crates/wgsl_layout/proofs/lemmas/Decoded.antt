-- What is decoded may be stored, is of the type, and is laid out in the bytes: decoding is reading.
use Rattle.std.proofs.Common.{◌≡◌, ℕ, zero, suc, ◌+◌, ◌-◌, ◌/◌, ◌≤◌, ℤ, pos, List, [], ◌∷◌, ◌++◌, map, length, Option, Some, None, is_some, option_map, option_and_then, Bool, true, false, if◌then◌else◌, refl, sym, ap, ◌∙◌, subst, arith}
use Rattle.std.specs.Prelude.{nat_le, ◌||◌}
use Rattle.std.proofs.lemmas.Bool.{false≢true}
use Rattle.std.proofs.lemmas.Bool.Decides.{nat_tests}
use Rattle.std.proofs.lemmas.Int.{ints}
use Rattle.std.proofs.lemmas.Option.{none-some}
use Rattle.wgsl_rules.specs.Kinds as kinds
use Rattle.wgsl_rules.specs.Kinds.{Kind, bytes_of, wrap, InKind}
use Rattle.wgsl_rules.specs.Types as types
use Rattle.wgsl_rules.specs.Types.{Ty, struct, array, vec, mat, atomic, Fields, no_fields, field}
use Rattle.wgsl_rules.specs.Values.{Val, array_of, Vals, no_vals, val, count, item, type_of, first_type, matrix_type, array_type, AllOfType, HaveTypes, AreLiterals, AreVectors, IsStorable, AreStorable}
use Rattle.wgsl_rules.specs.Paths.{parts, value_at}
use Rattle.wgsl_rules.specs.Size.{size_of, offset_after, end_after, extent_in}
use Rattle.wgsl_rules.specs.Layout.{size, align, stride, amount, scalar_kind, is_from_2_to_4, has_fixed_layout, have_fixed_layouts, is_runtime_array, end_in_runtime_array, has_runtime_layout, has_layout, known_stride, Tail, tail_of, at_least_one, count_in, layout_of, runtime_count, elements, last_elements, leaf, atomic_kind, Leaf, under, leaves, part_leaves, Layout, scalar, composite, Parts, no_parts, part, repeated, layout, member_parts, count_with}
use Rattle.wgsl_rules.proofs.lemmas.Known.{and-both, some-of}
use Rattle.wgsl_layout.specs.Buffers.{number_from, number_of, number_at, Reads, Lays, IsReadOf, decode, read_number, made_of_parts, decoded, decoded_parts}
use Rattle.wgsl_layout.specs.Laws.{DecodingIsReading}
use Rattle.wgsl_layout.proofs.lemmas.Fixed.{first-fixed, fixed-array, fixed-mat, last-runtime}
use Rattle.wgsl_layout.proofs.lemmas.Tidy.{counts, fixed-length}
use Rattle.wgsl_layout.proofs.lemmas.Counts.{count-fixed, tail-there}
use Rattle.wgsl_layout.proofs.lemmas.Compose.{ReadsFrom, number-made, laid-decodes, laid-once}

pub wraps-in : (k : Kind) (n : ℕ) → InKind k (wrap k (pos n))
wraps-in kinds.abstract_int n = grind (arith, nat_tests, ints)
wraps-in kinds.i32 n = grind (arith, nat_tests, ints)
wraps-in kinds.u32 n = grind (arith, nat_tests, ints)
wraps-in kinds.i64 n = grind (arith, nat_tests, ints)
wraps-in kinds.u64 n = grind (arith, nat_tests, ints)

pub read-in : (b : List ℕ) (o : ℕ) (k : Kind) → InKind k (read_number b o k)
read-in b o k = wraps-in k (number_from b o (bytes_of k))

-- ---- parts alike

abbrev pub IsGood : Ty → Val → Type 0
IsGood t v = IsStorable v × (type_of v ≡ t)

pub count-repeated : (b : List ℕ) (o : ℕ) (l : Layout) (stride from n : ℕ) → count (decoded_parts b o (repeated l stride from n)) ≡ n
count-repeated b o l stride from zero = refl
count-repeated b o l stride from (suc n) = ap suc (count-repeated b o l stride (from + stride) n)

pub good-repeated : (t : Ty) (b : List ℕ) (o : ℕ) (l : Layout) (stride from n : ℕ) → ((o : ℕ) → IsGood t (decoded b o l)) → AllOfType t (decoded_parts b o (repeated l stride from n)) × AreStorable (decoded_parts b o (repeated l stride from n))
good-repeated t b o l stride from zero h = (tt, tt)
good-repeated t b o l stride from (suc n) h =
    let one = h (o + from) in
    let rest = good-repeated t b o l stride (from + stride) n h in
    ((one.1, rest.0), (one.0, rest.1))

first-of-all : (t : Ty) (vs : Vals) → 1 ≤ count vs → AllOfType t vs → first_type vs ≡ t
first-of-all t no_vals h a = absurd (omega arith)
first-of-all t (val v vs) h a = a.0

literal-repeated : (b : List ℕ) (o : ℕ) (l : Layout) (stride from n : ℕ) → ((o : ℕ) → AreLiterals (val (decoded b o l) no_vals)) → AreLiterals (decoded_parts b o (repeated l stride from n))
literal-repeated b o l stride from zero h = tt
literal-repeated b o l stride from (suc n) h = let one = h (o + from) in (one.0, literal-repeated b o l stride (from + stride) n h)

vector-repeated : (b : List ℕ) (o : ℕ) (k : ℕ) (t : Ty) (len : ℕ) (ps : Parts) (stride from n : ℕ) → AreVectors (decoded_parts b o (repeated (composite (vec k t) len ps) stride from n))
vector-repeated b o k t len ps stride from zero = tt
vector-repeated b o k t len ps stride from (suc n) = (tt, vector-repeated b o k t len ps stride (from + stride) n)

-- the same of any list of as many values of the type
in-all : (t : Ty) (vs : Vals) (n : ℕ) → count vs ≡ n → 1 ≤ n → AllOfType t vs → (first_type vs ≡ t) × AllOfType (first_type vs) vs
in-all t vs n c h a =
    let e = first-of-all t vs (omega arith) a in
    (e, subst (λ (u : Ty). AllOfType u vs) (sym e) a)

-- ---- scalars

scalar-good : (t : Ty) (k : Kind) (n o : ℕ) (b : List ℕ) → scalar_kind t ≡ Some k → IsGood t (decoded b o (layout n t)) × AreLiterals (val (decoded b o (layout n t)) no_vals)
scalar-good types.i32 k n o b e = ((read-in b o kinds.i32, refl), (tt, tt))
scalar-good types.u32 k n o b e = ((read-in b o kinds.u32, refl), (tt, tt))
scalar-good types.i64 k n o b e = ((read-in b o kinds.i64, refl), (tt, tt))
scalar-good types.u64 k n o b e = ((read-in b o kinds.u64, refl), (tt, tt))
scalar-good t k n o b e = absurd (cc)

vector-good : (k n : ℕ) (t : Ty) (o : ℕ) (b : List ℕ) → is_from_2_to_4 k ≡ true → is_some (scalar_kind t) ≡ true → IsGood (vec k t) (decoded b o (layout n (vec k t)))
vector-good k n t o b ck ct =
    let g = some-of (scalar_kind t) ct in
    let vs = decoded_parts b o (repeated (layout n t) (size t) 0 k) in
    let c = count-repeated b o (layout n t) (size t) 0 k in
    let all = good-repeated t b o (layout n t) (size t) 0 k (λ o. (scalar-good t g.0 n o b g.1).0) in
    let lits = literal-repeated b o (layout n t) (size t) 0 k (λ o. (scalar-good t g.0 n o b g.1).1) in
    let bounds = counts k ck in
    let lo = bounds.0 in let hi = bounds.1 in
    let first = in-all t vs k c (omega arith) all.0 in
    ((omega arith, omega arith, lits, first.1, all.1), ap (λ (m : ℕ). vec m (first_type vs)) c ∙ ap (vec k) first.0)

matrix-good : (c r n : ℕ) (t : Ty) (o : ℕ) (b : List ℕ) → is_from_2_to_4 c ≡ true → is_from_2_to_4 r ≡ true → is_some (scalar_kind t) ≡ true → IsGood (mat c r t) (decoded b o (layout n (mat c r t)))
matrix-good c r n t o b cc' cr ct =
    let l = layout n (vec r t) in
    let vs = decoded_parts b o (repeated l (align (vec r t)) 0 c) in
    let k = count-repeated b o l (align (vec r t)) 0 c in
    let all = good-repeated (vec r t) b o l (align (vec r t)) 0 c (λ o. vector-good r n t o b cr ct) in
    let vectors = vector-repeated b o r t (size (vec r t)) (repeated (layout n t) (size t) 0 r) (align (vec r t)) 0 c in
    let bounds = counts c cc' in
    let lo = bounds.0 in let hi = bounds.1 in
    let first = in-all (vec r t) vs c k (omega arith) all.0 in
    ((omega arith, omega arith, vectors, first.1, all.1), ap (λ (m : ℕ). matrix_type m (first_type vs)) k ∙ ap (matrix_type c) first.0)

array-good : (runtime : Bool) (k n : ℕ) (t : Ty) (o : ℕ) (b : List ℕ) (stride : ℕ) → 1 ≤ k → ((o : ℕ) → IsGood t (decoded b o (layout n t))) → IsGood (array_type runtime t k) (array_of runtime (decoded_parts b o (repeated (layout n t) stride 0 k)))
array-good runtime k n t o b stride one h =
    let vs = decoded_parts b o (repeated (layout n t) stride 0 k) in
    let c = count-repeated b o (layout n t) stride 0 k in
    let all = good-repeated t b o (layout n t) stride 0 k h in
    let first = in-all t vs k c one all.0 in
    ((omega arith, first.1, all.1), ap (λ (m : ℕ). array_type runtime (first_type vs) m) c ∙ ap (λ (u : Ty). array_type runtime u k) first.0)

-- ---- every fixed layout

mutual
  pub fixed-good : (t : Ty) (n o : ℕ) (b : List ℕ) → has_fixed_layout t ≡ true → IsGood t (decoded b o (layout n t))
  fixed-good types.i32 n o b h = (read-in b o kinds.i32, refl)
  fixed-good types.u32 n o b h = (read-in b o kinds.u32, refl)
  fixed-good types.i64 n o b h = (read-in b o kinds.i64, refl)
  fixed-good types.u64 n o b h = (read-in b o kinds.u64, refl)
  fixed-good (atomic types.i32) n o b h = ((tt, read-in b o kinds.i32), refl)
  fixed-good (atomic types.u32) n o b h = ((tt, read-in b o kinds.u32), refl)
  fixed-good (atomic t) n o b h = absurd (false≢true h)
  fixed-good (vec k t) n o b h = let both = and-both (is_from_2_to_4 k) (is_some (scalar_kind t)) h in vector-good k n t o b both.0 both.1
  fixed-good (mat c r t) n o b h =
      let made = fixed-mat c r t h in
      matrix-good c r n t o b made.columns made.rows made.scalar
  fixed-good (array t (Some k)) n o b h =
      let made = fixed-array k t h in
      array-good false k n t o b (stride t) (let f = made.count in grind (arith, nat_tests)) (λ o. fixed-good t n o b made.element)
  fixed-good (array t None) n o b h = absurd (false≢true h)
  fixed-good (struct name fs) n o b h =
      let both = and-both (have_fixed_layouts fs) (is_some (size_of (struct name fs))) h in
      (fields-good fs n o b (Some 0) both.0, refl)
  fixed-good t n o b h = absurd (false≢true h)

  pub fields-good : (fs : Fields) (n o : ℕ) (b : List ℕ) (from : Option ℕ) → have_fixed_layouts fs ≡ true
      → HaveTypes fs (decoded_parts b o (member_parts n from fs)) × AreStorable (decoded_parts b o (member_parts n from fs))
  fields-good no_fields n o b from h = (tt, tt)
  fields-good (field name t s a fs) n o b from h =
      let made = first-fixed t s a (have_fixed_layouts fs) h in
      let one = fixed-good t n (o + amount (offset_after from (extent_in t s a))) b made.fixed in
      let rest = fields-good fs n o b (end_after from (extent_in t s a)) made.rest in
      ((one.1, rest.0), (one.0, rest.1))

-- ---- layouts that are or end in a runtime-sized array

-- and the count is that of the value
abbrev pub IsCounted : Ty → ℕ → Val → Type 0
IsCounted t n v = IsGood t v × (runtime_count v ≡ n)

abbrev pub IsArray : Ty → ℕ → Val → Type 0
IsArray t n v = IsGood t v × (elements v ≡ n)

elements-good : (t : Ty) (n o : ℕ) (b : List ℕ) → is_runtime_array t ≡ true → 1 ≤ n → IsArray t n (decoded b o (layout n t))
elements-good (array t None) n o b h one =
    let both = and-both (has_fixed_layout t) (is_some (known_stride t)) h in
    (array-good true n n t o b (stride t) one (λ o. fixed-good t n o b both.0), count-repeated b o (layout n t) (stride t) 0 n)
elements-good t n o b h one = absurd (false≢true h)

fields-open : (fs : Fields) (n m o : ℕ) (b : List ℕ) (from : Option ℕ) → end_in_runtime_array from fs ≡ true → 1 ≤ n
    → HaveTypes fs (decoded_parts b o (member_parts n from fs)) × AreStorable (decoded_parts b o (member_parts n from fs)) × (last_elements m (decoded_parts b o (member_parts n from fs)) ≡ n)
fields-open no_fields n m o b from h one = absurd (false≢true h)
fields-open (field name t z g no_fields) n m o b from h one =
    let runtime = (last-runtime t z g from h).0 in
    let last = elements-good t n (o + amount (offset_after from (extent_in t z g))) b runtime one in
    ((last.0.1, tt), (last.0.0, tt), last.1)
fields-open (field name t z g (field k u y a fs)) n m o b from h one =
    let made = first-fixed t z g (end_in_runtime_array (end_after from (extent_in t z g)) (field k u y a fs)) h in
    let first = fixed-good t n (o + amount (offset_after from (extent_in t z g))) b made.fixed in
    let rest = fields-open (field k u y a fs) n (elements (decoded b (o + amount (offset_after from (extent_in t z g))) (layout n t))) o b (end_after from (extent_in t z g)) made.rest one in
    ((first.1, rest.0), (first.0, rest.1), rest.2)

pub runtime-good : (t : Ty) (n o : ℕ) (b : List ℕ) → has_runtime_layout t ≡ true → 1 ≤ n → IsCounted t n (decoded b o (layout n t))
runtime-good (struct name fs) n o b h one = let all = fields-open fs n 0 o b (Some 0) h one in (((all.0, all.1), refl), all.2)
runtime-good (array t None) n o b h one = elements-good (array t None) n o b h one
runtime-good t n o b h one = absurd (false≢true h)

-- ---- the leaves read their numbers

-- the parts of a composite are those that it is made of
abbrev mutual
  pub IsShaped : Layout → Type 0
  IsShaped (scalar t k) = Unit {0}
  IsShaped (composite t len ps) = ((vs : Vals) → parts (made_of_parts t vs) ≡ vs) × AreShaped ps

  pub AreShaped : Parts → Type 0
  AreShaped no_parts = Unit {0}
  AreShaped (part o l ps) = IsShaped l × AreShaped ps

shaped-repeated : (l : Layout) (stride from n : ℕ) → IsShaped l → AreShaped (repeated l stride from n)
shaped-repeated l stride from zero h = tt
shaped-repeated l stride from (suc n) h = (h, shaped-repeated l stride (from + stride) n h)

scalar-shaped : (t : Ty) (n : ℕ) → is_some (scalar_kind t) ≡ true → IsShaped (layout n t)
scalar-shaped types.i32 n h = tt
scalar-shaped types.u32 n h = tt
scalar-shaped types.i64 n h = tt
scalar-shaped types.u64 n h = tt
scalar-shaped t n h = absurd (false≢true h)

atomic-shaped : (t : Ty) (k : Option Kind) → is_some k ≡ true → IsShaped (leaf t k)
atomic-shaped t None h = absurd (false≢true h)
atomic-shaped t (Some k) h = tt

mutual
  fixed-shaped : (t : Ty) (n : ℕ) → has_fixed_layout t ≡ true → IsShaped (layout n t)
  fixed-shaped types.i32 n h = tt
  fixed-shaped types.u32 n h = tt
  fixed-shaped types.i64 n h = tt
  fixed-shaped types.u64 n h = tt
  fixed-shaped (atomic t) n h = atomic-shaped (atomic t) (atomic_kind t) h
  fixed-shaped (vec k t) n h = (λ vs. refl, shaped-repeated (layout n t) (size t) 0 k (scalar-shaped t n (and-both (is_from_2_to_4 k) (is_some (scalar_kind t)) h).1))
  fixed-shaped (mat c r t) n h =
      let made = fixed-mat c r t h in
      (λ vs. refl, shaped-repeated (layout n (vec r t)) (align (vec r t)) 0 c (λ vs. refl, shaped-repeated (layout n t) (size t) 0 r (scalar-shaped t n made.scalar)))
  fixed-shaped (array t (Some k)) n h =
      let made = fixed-array k t h in
      (λ vs. refl, shaped-repeated (layout n t) (stride t) 0 k (fixed-shaped t n made.element))
  fixed-shaped (array t None) n h = absurd (false≢true h)
  fixed-shaped (struct name fs) n h = (λ vs. refl, fields-shaped fs n (Some 0) (and-both (have_fixed_layouts fs) (is_some (size_of (struct name fs))) h).0)
  fixed-shaped t n h = absurd (false≢true h)

  fields-shaped : (fs : Fields) (n : ℕ) (from : Option ℕ) → have_fixed_layouts fs ≡ true → AreShaped (member_parts n from fs)
  fields-shaped no_fields n from h = tt
  fields-shaped (field name t s a fs) n from h =
      let made = first-fixed t s a (have_fixed_layouts fs) h in
      (fixed-shaped t n made.fixed, fields-shaped fs n (end_after from (extent_in t s a)) made.rest)

array-shaped : (t : Ty) (n : ℕ) → is_runtime_array t ≡ true → IsShaped (layout n t)
array-shaped (array t None) n h = (λ vs. refl, shaped-repeated (layout n t) (stride t) 0 n (fixed-shaped t n (and-both (has_fixed_layout t) (is_some (known_stride t)) h).0))
array-shaped t n h = absurd (false≢true h)

open-shaped : (fs : Fields) (n : ℕ) (from : Option ℕ) → end_in_runtime_array from fs ≡ true → AreShaped (member_parts n from fs)
open-shaped no_fields n from h = absurd (false≢true h)
open-shaped (field name t z g no_fields) n from h =
    (array-shaped t n (last-runtime t z g from h).0, tt)
open-shaped (field name t z g (field k u y a fs)) n from h =
    let made = first-fixed t z g (end_in_runtime_array (end_after from (extent_in t z g)) (field k u y a fs)) h in
    (fixed-shaped t n made.fixed, open-shaped (field k u y a fs) n (end_after from (extent_in t z g)) made.rest)

runtime-shaped : (t : Ty) (n : ℕ) → has_runtime_layout t ≡ true → IsShaped (layout n t)
runtime-shaped (struct name fs) n h = (λ vs. refl, open-shaped fs n (Some 0) h)
runtime-shaped (array t None) n h = array-shaped (array t None) n h
runtime-shaped t n h = absurd (false≢true h)

-- reading where parts stand
reads-out : (f : List ℕ → ℤ) (b : List ℕ) (o i k : ℕ) (ls ms : List Leaf) → ReadsFrom (λ p. f (i ∷ p)) b (o + k) ls → ReadsFrom f b o ms → ReadsFrom f b o (map (under i k) ls ++ ms)
reads-out f b o i k [] ms r s = s
reads-out f b o i k (l ∷ ls) ms r s = let e : o + k + l.offset ≡ o + (k + l.offset) = omega arith in (rw e at r.0, reads-out f b o i k ls ms r.1 s)

mutual
  reads-decoded : (l : Layout) (f : List ℕ → ℤ) (b : List ℕ) (o : ℕ) → IsShaped l → ((p : List ℕ) → f p ≡ number_at (decoded b o l) p) → ReadsFrom f b o (leaves l)
  reads-decoded (scalar t k) f b o h is = let e : o + 0 ≡ o = omega arith in (rw e (is [] ∙ number-made t k (read_number b o k)), tt)
  reads-decoded (composite t len ps) f b o h is =
      parts-decoded ps f b o 0 h.1 (λ k p. let z : 0 + k ≡ k = omega arith in rw z (is (k ∷ p) ∙ ap (λ (vs : Vals). number_of (option_and_then (value_at p) (item k vs))) (h.0 (decoded_parts b o ps))))

  parts-decoded : (ps : Parts) (f : List ℕ → ℤ) (b : List ℕ) (o i : ℕ) → AreShaped ps → ((k : ℕ) (p : List ℕ) → f ((i + k) ∷ p) ≡ number_of (option_and_then (value_at p) (item k (decoded_parts b o ps)))) → ReadsFrom f b o (part_leaves i ps)
  parts-decoded no_parts f b o i h is = tt
  parts-decoded (part from l ps) f b o i h is =
      let z : i + 0 ≡ i = omega arith in
      reads-out f b o i from (leaves l) (part_leaves (suc i) ps) (reads-decoded l (λ p. f (i ∷ p)) b (o + from) h.0 (λ p. rw z at (is 0 p)))
      (parts-decoded ps f b o (suc i) h.1 (λ k p. let next : suc i + k ≡ i + suc k = omega arith in rw next (is (suc k) p)))

reads-at : (f : List ℕ → ℤ) (b : List ℕ) (ls : List Leaf) → ReadsFrom f b 0 ls → Reads f b ls
reads-at f b [] r = tt
reads-at f b (l ∷ ls) r = let e : 0 + l.offset ≡ l.offset = omega arith in (rw e at r.0, reads-at f b ls r.1)

-- ---- decoding is reading

-- with the count that the bytes give, what is decoded has that count
counted-good : (b : List ℕ) (t : Ty) (n : ℕ) → has_layout t ≡ true → count_in (length b) t ≡ Some n → IsCounted t n (decoded b 0 (layout n t)) × IsShaped (layout n t)
counted-good b t n h e = by (has_fixed_layout t) refl h
  where
    none : (len : ℕ) → (if nat_le (size t) len then Some 0 else None) ≡ Some n → 0 ≡ n
    none len e = over (nat_le (size t) len) e
      where
        over : (c : Bool) → (if c then Some 0 else None) ≡ Some n → 0 ≡ n
        over true e = cc
        over false e = absurd (cc)

    some : (r : Tail) (len : ℕ) → (if nat_le r.start len then at_least_one ((len - r.start) / stride r.element) else None) ≡ Some n → 1 ≤ n
    some r len e = over (nat_le r.start len) ((len - r.start) / stride r.element) e
      where
        over : (c : Bool) (q : ℕ) → (if c then at_least_one q else None) ≡ Some n → 1 ≤ n
        over true zero e = absurd (cc)
        over true (suc q) e = let same : suc q ≡ n = cc in omega arith
        over false q e = absurd (cc)

    by : (c : Bool) → has_fixed_layout t ≡ c → (c || has_runtime_layout t) ≡ true → IsCounted t n (decoded b 0 (layout n t)) × IsShaped (layout n t)
    by true f h =
        let good = fixed-good t n 0 b f in
        let zero_n = none (length b) (ap (count_with (length b) (size t)) (sym (fixed-length t n f)) ∙ e) in
        ((good, count-fixed (decoded b 0 (layout n t)) good.0 (ap has_fixed_layout good.1 ∙ f) ∙ zero_n), fixed-shaped t n f)
    by false f h = (runtime-good t n 0 b h (tails (tail_of t) refl), runtime-shaped t n h)
      where
        tails : (o : Option Tail) → tail_of t ≡ o → 1 ≤ n
        tails None is = absurd (false≢true (ap (λ (o : Option Tail). is_some o) (sym is) ∙ tail-there t h))
        tails (Some r) is = some r (length b) (ap (count_with (length b) (size t)) (sym is) ∙ e)

pub decoded-lays : (b : List ℕ) (t : Ty) (n : ℕ) → has_layout t ≡ true → count_in (length b) t ≡ Some n → Lays b t (decoded b 0 (layout n t))
decoded-lays b t n h e =
    let v = decoded b 0 (layout n t) in
    let g = counted-good b t n h e in
    let same : layout n t ≡ layout_of v = ap (λ (k : ℕ). layout k t) (sym g.0.1) ∙ ap (layout (runtime_count v)) (sym g.0.0.1) in
    record {
      layout = h;
      storable = g.0.0.0;
      typed = g.0.0.1;
      counted = e ∙ ap Some (sym g.0.1);
      reads = subst (λ (l : Layout). Reads (number_at v) b (leaves l)) same (reads-at (number_at v) b (leaves (layout n t)) (reads-decoded (layout n t) (number_at v) b 0 g.1 (λ p. refl)));
    }

pub decoding-is-reading : DecodingIsReading
decoding-is-reading b t = by (has_layout t) (count_in (length b) t) refl refl
  where
    is : (c : Bool) (o : Option ℕ) → has_layout t ≡ c → count_in (length b) t ≡ o → decode b t ≡ (if c then option_map (λ n. decoded b 0 (layout n t)) o else None)
    is c o h e = ap (λ (x : Bool). if x then option_map (λ n. decoded b 0 (layout n t)) (count_in (length b) t) else None) h ∙ ap (λ (q : Option ℕ). if c then option_map (λ n. decoded b 0 (layout n t)) q else None) e

    none : decode b t ≡ None → IsReadOf b t (decode b t)
    none e = subst (IsReadOf b t) (sym e) (λ v h. absurd (none-some v (sym e ∙ laid-decodes b t v h)))

    by : (c : Bool) (o : Option ℕ) → has_layout t ≡ c → count_in (length b) t ≡ o → IsReadOf b t (decode b t)
    by true (Some n) h e = let l = decoded-lays b t n h e in subst (IsReadOf b t) (sym (is true (Some n) h e)) (l, λ w k. laid-once b t (decoded b 0 (layout n t)) w l k)
    by true None h e = none (is true None h e)
    by false o h e = none (is false o h e)
