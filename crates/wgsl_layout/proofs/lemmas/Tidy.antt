-- The parts of every layout are in order, and a fixed layout has the size of its type.
use Rattle.std.proofs.Common.{◌≡◌, ℕ, zero, suc, ◌+◌, ◌*◌, ◌≤◌, List, Option, Some, None, is_some, IsSomeAnd, Bool, true, false, refl, sym, ap, ◌∙◌, subst, arith}
use Rattle.std.specs.Prelude.{nat_le, ◌||◌, ◌==◌, if◌then◌else◌}
use Rattle.std.specs.Option.{option_or}
use Rattle.std.proofs.lemmas.Bool.{false≢true}
use Rattle.std.proofs.lemmas.Bool.Decides.{nat_tests}
use Rattle.std.proofs.lemmas.Option.{none-some}
use Rattle.wgsl_rules.specs.Kinds as kinds
use Rattle.wgsl_rules.specs.Kinds.{Kind, bytes_of}
use Rattle.wgsl_rules.specs.Types.{Ty, i32, u32, i64, u64, struct, array, vec, mat, atomic, Fields, no_fields, field}
use Rattle.wgsl_rules.specs.Size.{size_of, align_of, times, vec3_align, round_up, extents, offset_after, end_after, end_of_members, struct_align, extent_in}
use Rattle.wgsl_rules.specs.Layout.{amount, size, align, known_stride, stride, Tail, scalar_kind, atomic_kind, is_from_2_to_4, is_size_valid, has_fixed_layout, have_fixed_layouts, is_runtime_array, end_in_runtime_array, has_runtime_layout, has_layout, tail_at, last_tail, tail_of, layout_len, Layout, scalar, Parts, no_parts, part, length_in, repeated, leaf, layout, member_parts, length_with}
use Rattle.wgsl_rules.proofs.lemmas.Known.{and-both, some-of, fits, both-known, times-known, rounded-known, stride-known, offset-known, end-known, ends-known, end_after-none, offset_after-none}
use Rattle.wgsl_layout.proofs.lemmas.Fixed.{first-fixed, fixed-array, fixed-mat, last-runtime}
use Rattle.wgsl_layout.proofs.lemmas.Ranges.{IsTidy, AreTidy}

-- ---- parts alike

pub tidy-later : (a b to : ℕ) (ps : Parts) → b ≤ a → AreTidy a ps to → AreTidy b ps to
tidy-later a b to no_parts e h = omega arith
tidy-later a b to (part o l ps) e h = (omega (arith, h.0), h.1, h.2)

pub repeated-tidy : (l : Layout) (stride from n to : ℕ) → IsTidy l → length_in l ≤ stride → from + n * stride ≤ to → AreTidy from (repeated l stride from n) to
repeated-tidy l stride from zero to t h le = omega arith
repeated-tidy l stride from (suc n) to t h le = (
  omega arith,
  t,
  tidy-later (from + stride) (from + length_in l) to (repeated l stride (from + stride) n) (omega arith)
      (repeated-tidy l stride (from + stride) n to t h (omega arith)),
)

-- ---- scalars

-- what a layout has where it is tidy, and of this length
abbrev pub Is : Layout → Option ℕ → Type 0
Is l s = IsTidy l × (s ≡ Some (length_in l))

pub record IsScalar (t : Ty) (k : Kind) : Type 0 where
  pub sized : size_of t ≡ Some (bytes_of k)
  pub its_leaf : (n : ℕ) → layout n t ≡ scalar t k
  pub small : bytes_of k ≤ 8
  -- three of them are no longer than their alignment
  pub three : (a : ℕ) → vec3_align t ≡ Some a → 3 * bytes_of k ≤ a

-- n is no more than a number that may be there
is_within : ℕ → Option ℕ → Bool
is_within n None = true
is_within n (Some a) = nat_le n a

within : (n a : ℕ) (o : Option ℕ) → is_within n o ≡ true → o ≡ Some a → n ≤ a
unfolding is_within
within n a None h e = absurd (cc)
within n a (Some b) h e = let s : b ≡ a = cc in grind (arith, nat_tests)

pub scalar-is : (t : Ty) (k : Kind) → scalar_kind t ≡ Some k → IsScalar t k
unfolding is_within
scalar-is i32 k e = let s : kinds.i32 ≡ k = cc in subst (IsScalar i32) s (record { sized = refl; its_leaf = λ n. refl; small = omega arith; three = λ a f. within 12 a (vec3_align i32) refl f })
scalar-is u32 k e = let s : kinds.u32 ≡ k = cc in subst (IsScalar u32) s (record { sized = refl; its_leaf = λ n. refl; small = omega arith; three = λ a f. within 12 a (vec3_align u32) refl f })
scalar-is i64 k e = let s : kinds.i64 ≡ k = cc in subst (IsScalar i64) s (record { sized = refl; its_leaf = λ n. refl; small = omega arith; three = λ a f. within 24 a (vec3_align i64) refl f })
scalar-is u64 k e = let s : kinds.u64 ≡ k = cc in subst (IsScalar u64) s (record { sized = refl; its_leaf = λ n. refl; small = omega arith; three = λ a f. within 24 a (vec3_align u64) refl f })
scalar-is t k e = absurd (none-some k e)

-- an atomic, or a scalar by itself
leaf-tidy : (t : Ty) (k : Option Kind) (s : Option ℕ) → is_some k ≡ true → ((j : Kind) → k ≡ Some j → s ≡ Some (bytes_of j)) → Is (leaf t k) s
leaf-tidy t None s h f = absurd (false≢true h)
leaf-tidy t (Some k) s h f = (tt, f k refl)

atomic-size : (t : Ty) (k : Kind) → atomic_kind t ≡ Some k → size_of (atomic t) ≡ Some (bytes_of k)
atomic-size i32 k e = let s : kinds.i32 ≡ k = cc in ap (λ j. Some (bytes_of j)) s
atomic-size u32 k e = let s : kinds.u32 ≡ k = cc in ap (λ j. Some (bytes_of j)) s
atomic-size t k e = absurd (none-some k e)

-- ---- vectors and matrices

pub counts : (n : ℕ) → is_from_2_to_4 n ≡ true → (2 ≤ n) × (n ≤ 4)
counts n h = (grind (arith, nat_tests), grind (arith, nat_tests))

pub record IsVector (n k : ℕ) (t : Ty) : Type 0 where
  pub tidy : IsTidy (layout n (vec k t))
  pub sized : size_of (vec k t) ≡ Some (size (vec k t))
  pub below_align : (a : ℕ) → align_of (vec k t) ≡ Some a → size (vec k t) ≤ a

pub vector-is : (n k : ℕ) (t : Ty) → is_from_2_to_4 k ≡ true → is_some (scalar_kind t) ≡ true → IsVector n k t
vector-is n k t ck ct = by (some-of (scalar_kind t) ct)
  where
    Its : Type 0
    Its = (j : Kind) × (scalar_kind t ≡ Some j)

    by : Its → IsVector n k t
    by g =
        let s = scalar-is t g.0 g.1 in
        let c = counts k ck in
        let b = s.small in
        let product : k * bytes_of g.0 ≤ 32 = grind arith in
        let known : size_of (vec k t) ≡ Some (k * bytes_of g.0) = rw (s.sized) (fits (k * bytes_of g.0) (omega arith)) in
        let sz : size t ≡ bytes_of g.0 = ap amount s.sized in
        let svec : size (vec k t) ≡ k * bytes_of g.0 = ap amount known in
        let one = s.its_leaf n in
        let len : length_in (layout n t) ≡ bytes_of g.0 = ap length_in one in
        let all : k * size t ≡ k * bytes_of g.0 = ap (λ (x : ℕ). k * x) sz in
        record {
          tidy = repeated-tidy (layout n t) (size t) 0 k (size (vec k t)) (subst IsTidy (sym one) tt) (omega arith) (omega arith);
          sized = known ∙ ap Some (sym svec);
          below_align = λ a e. rw svec (aligned s a (k == 3) refl known e);
        }
      where
        aligned : IsScalar t g.0 → (a : ℕ) (b : Bool) → (k == 3) ≡ b → size_of (vec k t) ≡ Some (k * bytes_of g.0) → (if b then vec3_align t else times k (size_of t)) ≡ Some a → k * bytes_of g.0 ≤ a
        aligned s a true is known e = let three : k ≡ 3 = grind (arith, nat_tests) in let h = s.three a e in rw three h
        aligned s a false is known e = let same : ◌≡◌ {A = Option ℕ} (Some a) (Some (k * bytes_of g.0)) = sym e ∙ known in let eq : a ≡ k * bytes_of g.0 = cc in omega arith

-- a column of a matrix is a vector, and no longer than its alignment
matrix-tidy : (n c r : ℕ) (t : Ty) → is_from_2_to_4 r ≡ true → is_some (scalar_kind t) ≡ true → is_some (size_of (mat c r t)) ≡ true → Is (layout n (mat c r t)) (size_of (mat c r t))
matrix-tidy n c r t cr ct h = by (some-of (size_of (mat c r t)) h)
  where
    Its : Type 0
    Its = (m : ℕ) × (size_of (mat c r t) ≡ Some m)

    by : Its → Is (layout n (mat c r t)) (size_of (mat c r t))
    by g =
        let column = vector-is n r t cr ct in
        let k = times-known c (align_of (vec r t)) g.0 g.1 in
        let sz : size (mat c r t) ≡ g.0 = ap amount g.1 in
        let al : align (vec r t) ≡ k.0 = ap amount k.1 in
        let all : c * align (vec r t) ≡ c * k.0 = ap (λ (x : ℕ). c * x) al in
        let less = column.below_align k.0 k.1 in
        let total = k.2 in
        (repeated-tidy (layout n (vec r t)) (align (vec r t)) 0 c (size (mat c r t)) column.tidy (omega arith) (omega arith), g.1 ∙ ap Some (sym sz))

-- ---- every fixed layout

-- a size attribute that is valid is no less than the size
pub attribute-holds : (s size : Option ℕ) (n m : ℕ) → is_size_valid s size ≡ true → size ≡ Some n → option_or s size ≡ Some m → n ≤ m
attribute-holds None size n m h e f = let same : ◌≡◌ {A = Option ℕ} (Some n) (Some m) = sym e ∙ f in let eq : n ≡ m = cc in omega arith
attribute-holds (Some a) None n m h e f = absurd (false≢true h)
attribute-holds (Some a) (Some b) n m h e f = let eb : b ≡ n = cc in let ea : a ≡ m = cc in grind (arith, nat_tests)

-- the type of the last of such members is no runtime-sized array
no-tail : (fs : Fields) (from : Option ℕ) → have_fixed_layouts fs ≡ true → last_tail None from fs ≡ None
no-tail no_fields from h = refl
no-tail (field name t s a fs) from h =
    let made = first-fixed t s a (have_fixed_layouts fs) h in
    let e = no-array t (amount (offset_after from (extent_in t s a))) made.fixed in
    subst (λ (o : Option Tail). last_tail o (end_after from (extent_in t s a)) fs ≡ None) (sym e) (no-tail fs (end_after from (extent_in t s a)) made.rest)
  where
    no-array : (t : Ty) (o : ℕ) → has_fixed_layout t ≡ true → tail_at o t ≡ None
    no-array (array t None) o h = absurd (false≢true h)
    no-array t o h = refl

pub length-fixed : (n : ℕ) (t : Ty) → tail_of t ≡ None → layout_len n t ≡ size t
length-fixed n t e = ap (length_with n (size t)) e

array-tidy : (n k : ℕ) (t : Ty) → Is (layout n t) (size_of t) → is_some (size_of (array t (Some k))) ≡ true → Is (layout n (array t (Some k))) (size_of (array t (Some k)))
array-tidy n k t is h =
    let g = some-of (size_of (array t (Some k))) h in
    let m = times-known k (known_stride t) g.0 g.1 in
    let st = stride-known (align_of t) (size_of t) m.0 m.1 in
    let same : ◌≡◌ {A = Option ℕ} (Some (length_in (layout n t))) (Some st.0) = sym is.1 ∙ st.1 in
    let len : length_in (layout n t) ≡ st.0 = cc in
    let le = st.2 in
    let stride_is : stride t ≡ m.0 = ap amount m.1 in
    let all : k * stride t ≡ k * m.0 = ap (λ (x : ℕ). k * x) stride_is in
    let sz : size (array t (Some k)) ≡ g.0 = ap amount g.1 in
    let total = m.2 in
    (repeated-tidy (layout n t) (stride t) 0 k (size (array t (Some k))) is.0 (omega arith) (omega arith), g.1 ∙ ap Some (sym sz))

tidy-within : (from to to' : ℕ) (ps : Parts) → to ≤ to' → AreTidy from ps to → AreTidy from ps to'
tidy-within from to to' no_parts le h = omega arith
tidy-within from to to' (part o l ps) le h = (h.0, h.1, tidy-within (o + length_in l) to to' ps le h.2)

struct-tidy : (n : ℕ) (name : List ℕ) (fs : Fields) → have_fixed_layouts fs ≡ true → is_some (size_of (struct name fs)) ≡ true
    → ((end : ℕ) → end_of_members (Some 0) (extents fs) ≡ Some end → AreTidy 0 (member_parts n (Some 0) fs) end) → Is (layout n (struct name fs)) (size_of (struct name fs))
struct-tidy n name fs fixed h parts =
    let g = some-of (size_of (struct name fs)) h in
    let b = both-known round_up (struct_align (extents fs)) (end_of_members (Some 0) (extents fs)) g.0 g.1 in
    let le = (rounded-known b.0 b.1 g.0 b.4).later in
    let len : layout_len n (struct name fs) ≡ g.0 = length-fixed n (struct name fs) (no-tail fs (Some 0) fixed) ∙ ap amount g.1 in
    (tidy-within 0 b.1 (layout_len n (struct name fs)) (member_parts n (Some 0) fs) (omega arith) (parts b.1 b.3), g.1 ∙ ap Some (sym len))

-- one member and the rest
member-tidy : (n from o x end : ℕ) (off aft : Option ℕ) (l : Layout) (fs : Fields) → off ≡ Some o → aft ≡ Some x → from ≤ o → IsTidy l → o + length_in l ≤ x
    → AreTidy x (member_parts n (Some x) fs) end → AreTidy from (part (amount off) l (member_parts n aft fs)) end
member-tidy n from o x end off aft l fs eo ea le t less rest =
    subst (λ (a : Option ℕ). AreTidy from (part (amount off) l (member_parts n a fs)) end) (sym ea)
    (subst (λ (a : Option ℕ). AreTidy from (part (amount a) l (member_parts n (Some x) fs)) end) (sym eo)
    (le, t, tidy-later x (o + length_in l) end (member_parts n (Some x) fs) less rest))

mutual
  pub fixed-tidy : (t : Ty) (n : ℕ) → has_fixed_layout t ≡ true → Is (layout n t) (size_of t)
  fixed-tidy i32 n h = (tt, refl)
  fixed-tidy u32 n h = (tt, refl)
  fixed-tidy i64 n h = (tt, refl)
  fixed-tidy u64 n h = (tt, refl)
  fixed-tidy (atomic t) n h = leaf-tidy (atomic t) (atomic_kind t) (size_of (atomic t)) h (atomic-size t)
  fixed-tidy (vec k t) n h =
      let both = and-both (is_from_2_to_4 k) (is_some (scalar_kind t)) h in
      let v = vector-is n k t both.0 both.1 in
      (v.tidy, v.sized)
  fixed-tidy (mat c r t) n h =
      let made = fixed-mat c r t h in
      matrix-tidy n c r t made.rows made.scalar made.sized
  fixed-tidy (array t (Some k)) n h =
      let made = fixed-array k t h in
      array-tidy n k t (fixed-tidy t n made.element) made.sized
  fixed-tidy (struct name fs) n h =
      let both = and-both (have_fixed_layouts fs) (is_some (size_of (struct name fs))) h in
      struct-tidy n name fs both.0 both.1 (λ end e. fields-tidy fs n 0 end both.0 e)
  fixed-tidy t n h = absurd (false≢true h)

  pub fields-tidy : (fs : Fields) (n from end : ℕ) → have_fixed_layouts fs ≡ true → end_of_members (Some from) (extents fs) ≡ Some end
      → AreTidy from (member_parts n (Some from) fs) end
  fields-tidy no_fields n from end h e = let same : from ≡ end = cc in omega arith
  fields-tidy (field name t s a fs) n from end h e =
      let made = first-fixed t s a (have_fixed_layouts fs) h in
      let is = fixed-tidy t n made.fixed in
      let x = ends-known (end_after (Some from) (extent_in t s a)) (extents fs) end e in
      let k = end-known from (extent_in t s a) x.0 x.1 in
      let less = attribute-holds s (size_of t) (length_in (layout n t)) k.1 made.attribute is.1 k.3 in
      let ends : end_of_members (Some x.0) (extents fs) ≡ Some end = subst (λ (o : Option ℕ). end_of_members o (extents fs) ≡ Some end) x.1 e in
      member-tidy n from k.0 x.0 end (offset_after (Some from) (extent_in t s a)) (end_after (Some from) (extent_in t s a)) (layout n t) fs k.2 x.1 k.4 is.0 (omega (arith, k.5))
      (fields-tidy fs n x.0 end made.rest ends)

-- ---- layouts that are or end in a runtime-sized array

-- where what is in front has no known end, so has what follows
open-known : (fs : Fields) → end_in_runtime_array None fs ≡ true → ⊥
open-known no_fields h = false≢true h
open-known (field name t s a no_fields) h =
    false≢true (ap (λ (o : Option ℕ). is_some o) (sym (offset_after-none (extent_in t s a))) ∙ (last-runtime t s a None h).1)
open-known (field name t s a (field m u z b fs)) h =
    let made = first-fixed t s a (end_in_runtime_array (end_after None (extent_in t s a)) (field m u z b fs)) h in
    open-known (field m u z b fs) (ap (λ (o : Option ℕ). end_in_runtime_array o (field m u z b fs)) (sym (end_after-none (extent_in t s a))) ∙ made.rest)

pub open-from : (o : Option ℕ) (fs : Fields) → end_in_runtime_array o fs ≡ true → (x : ℕ) × (o ≡ Some x)
open-from None fs h = absurd (open-known fs h)
open-from (Some x) fs h = (x, refl)

-- elements of a runtime-sized array are no longer than its stride
elements-tidy : (t : Ty) (n from to : ℕ) → has_fixed_layout t ≡ true → is_some (known_stride t) ≡ true → from + n * stride t ≤ to → AreTidy from (repeated (layout n t) (stride t) from n) to
elements-tidy t n from to fixed known le =
    let is = fixed-tidy t n fixed in
    let g = some-of (known_stride t) known in
    let st = stride-known (align_of t) (size_of t) g.0 g.1 in
    let same : ◌≡◌ {A = Option ℕ} (Some (length_in (layout n t))) (Some st.0) = sym is.1 ∙ st.1 in
    let len : length_in (layout n t) ≡ st.0 = cc in
    let less = st.2 in
    let stride_is : stride t ≡ g.0 = ap amount g.1 in
    repeated-tidy (layout n t) (stride t) from n to is.0 (omega arith) le

array-open : (t : Ty) (n : ℕ) → is_runtime_array t ≡ true → IsTidy (layout n t) × (length_in (layout n t) ≡ layout_len n t)
array-open (array t None) n h =
    let both = and-both (has_fixed_layout t) (is_some (known_stride t)) h in
    (elements-tidy t n 0 (layout_len n (array t None)) both.0 both.1 (omega arith), refl)
array-open t n h = absurd (false≢true h)

-- the members, where the last of them is that array: they end where it does
Ends : ℕ → ℕ → Option Tail → Parts → Type 0
Ends n from found ps = IsSomeAnd found (λ r. AreTidy from ps (r.start + n * stride r.element))

last-open : (t : Ty) (n from o : ℕ) (off : Option ℕ) → is_runtime_array t ≡ true → off ≡ Some o → from ≤ o → Ends n from (tail_at (amount off) t) (part (amount off) (layout n t) no_parts)
unfolding Ends
last-open (array t None) n from o off h e le =
    let is = array-open (array t None) n h in
    let at_o : amount off ≡ o = ap amount e in
    (omega arith, is.0, omega (arith, is.1))
last-open t n from o off h e le = absurd (false≢true h)

open-tidy : (fs : Fields) (n from : ℕ) (found : Option Tail) → end_in_runtime_array (Some from) fs ≡ true → Ends n from (last_tail found (Some from) fs) (member_parts n (Some from) fs)
unfolding Ends
open-tidy no_fields n from found h = absurd (false≢true h)
open-tidy (field name t s a no_fields) n from found h =
    let one = last-runtime t s a (Some from) h in
    let o = some-of (offset_after (Some from) (extent_in t s a)) one.1 in
    last-open t n from o.0 (offset_after (Some from) (extent_in t s a)) one.0 o.1 (offset-known from (extent_in t s a) o.0 o.1)
open-tidy (field name t s a (field m u z b fs)) n from found h =
    let made = first-fixed t s a (end_in_runtime_array (end_after (Some from) (extent_in t s a)) (field m u z b fs)) h in
    let is = fixed-tidy t n made.fixed in
    let x = open-from (end_after (Some from) (extent_in t s a)) (field m u z b fs) made.rest in
    let k = end-known from (extent_in t s a) x.0 x.1 in
    let less = attribute-holds s (size_of t) (length_in (layout n t)) k.1 made.attribute is.1 k.3 in
    let tail = tail_at (amount (offset_after (Some from) (extent_in t s a))) t in
    let on = open-tidy (field m u z b fs) n x.0 tail (ap (λ (o : Option ℕ). end_in_runtime_array o (field m u z b fs)) (sym x.1) ∙ made.rest) in
    joined n from k.0 x.0 tail (offset_after (Some from) (extent_in t s a)) (end_after (Some from) (extent_in t s a)) (layout n t) (field m u z b fs) k.2 x.1 k.4 is.0 (omega (arith, k.5)) on
  where
    joined : (n from o x : ℕ) (found : Option Tail) (off aft : Option ℕ) (l : Layout) (gs : Fields) → off ≡ Some o → aft ≡ Some x → from ≤ o → IsTidy l → o + length_in l ≤ x
        → Ends n x (last_tail found (Some x) gs) (member_parts n (Some x) gs) → Ends n from (last_tail found aft gs) (part (amount off) l (member_parts n aft gs))
    joined n from o x found off aft l gs eo ea le t less on =
        subst (λ (a : Option ℕ). Ends n from (last_tail found a gs) (part (amount off) l (member_parts n a gs))) (sym ea)
        (subst (λ (a : Option ℕ). Ends n from (last_tail found (Some x) gs) (part (amount a) l (member_parts n (Some x) gs))) (sym eo)
        (by (last_tail found (Some x) gs) (member_parts n (Some x) gs) on))
      where
        by : (r : Option Tail) (ps : Parts) → Ends n x r ps → Ends n from r (part o l ps)
        by None ps h = absurd h
        by (Some r) ps h = (le, t, tidy-later x (o + length_in l) (r.start + n * stride r.element) ps less h)

-- ---- every type that has a layout

abbrev pub Tidy : ℕ → Ty → Type 0
Tidy n t = IsTidy (layout n t) × (length_in (layout n t) ≡ layout_len n t)

struct-open : (n : ℕ) (name : List ℕ) (fs : Fields) (found : Option Tail) → last_tail None (Some 0) fs ≡ found → Ends n 0 found (member_parts n (Some 0) fs) → Tidy n (struct name fs)
unfolding Ends
struct-open n name fs None e h = absurd h
struct-open n name fs (Some r) e h =
    let len : layout_len n (struct name fs) ≡ r.start + n * stride r.element = ap (length_with n (size (struct name fs))) e in
    (subst (λ (to : ℕ). AreTidy 0 (member_parts n (Some 0) fs) to) (sym len) h, refl)

runtime-tidy : (t : Ty) (n : ℕ) → has_runtime_layout t ≡ true → Tidy n t
runtime-tidy (struct name fs) n h = struct-open n name fs (last_tail None (Some 0) fs) refl (open-tidy fs n 0 None h)
runtime-tidy (array t None) n h = array-open (array t None) n h
runtime-tidy t n h = absurd (false≢true h)

pub fixed-length : (t : Ty) (n : ℕ) → has_fixed_layout t ≡ true → tail_of t ≡ None
fixed-length (struct name fs) n h = no-tail fs (Some 0) (and-both (have_fixed_layouts fs) (is_some (size_of (struct name fs))) h).0
fixed-length (array t None) n h = absurd (false≢true h)
fixed-length t n h = refl

pub fixed-sized : (t : Ty) (n : ℕ) → has_fixed_layout t ≡ true → (size_of t ≡ Some (layout_len n t)) × (length_in (layout n t) ≡ layout_len n t)
fixed-sized t n h =
    let is = fixed-tidy t n h in
    let len : layout_len n t ≡ length_in (layout n t) = length-fixed n t (fixed-length t n h) ∙ ap amount is.1 in
    (is.1 ∙ ap Some (sym len), sym len)

-- the parts of a layout are in order, and it has its length
pub tidy : (t : Ty) (n : ℕ) → has_layout t ≡ true → Tidy n t
tidy t n h = by (has_fixed_layout t) refl h
  where
    by : (b : Bool) → has_fixed_layout t ≡ b → (b || has_runtime_layout t) ≡ true → Tidy n t
    by true is h = ((fixed-tidy t n is).0, (fixed-sized t n is).1)
    by false is h = runtime-tidy t n h
