-- Each part of a layout stands at a multiple of the alignment of its type, which is a power of two.
use Rattle.std.proofs.Common.{◌≡◌, ℕ, zero, suc, ◌+◌, ◌-◌, ◌*◌, ◌/◌, ◌%◌, ◌^◌, ◌<◌, ◌≤◌, max, List, [], ◌∷◌, Option, Some, None, is_some, option_map, option_and_then, Bool, true, false, refl, sym, ap, ◌∙◌, subst, arith}
use Rattle.std.specs.Prelude.{nat_le, nat_lt, ◌||◌, if◌then◌else◌, count_ones, IsSomeAnd}
use Rattle.std.specs.Int.{is_power_of_two, next_multiple_of}
use Rattle.std.proofs.lemmas.Bool.{false≢true}
use Rattle.std.proofs.lemmas.Bool.Decides.{nat_tests}
use Rattle.std.proofs.lemmas.Nat.{ones_le_self, zero_from_ones, pow-add, pow_pos}
use Rattle.std.proofs.lemmas.Nat.Gcd.{dvd_refl, dvd-zero, dvd_trans, dvd_of_mod-eq-zero, mod-eq-zero_of_dvd}
use Rattle.std.proofs.Math.Nat.{dvd-add, dvd-mul_right, pow-suc, pow-le-pow_right, div-add-mod, mod-lt, mod-eq_of_lt}
use Prim.Native.Nat.{◌∣◌}
use lib.Count.{ones_step}
use Rattle.wgsl_rules.specs.Kinds.{Kind}
use Rattle.wgsl_rules.specs.Types.{Ty, i32, u32, i64, u64, struct, array, vec, mat, atomic, Fields, no_fields, field}
use Rattle.wgsl_rules.specs.Size.{size_of, align_of, fitting, with_both, round_up, extents, Extent, offset_after, end_after, end_of_members, align_after, greatest_align, struct_align, extent_in}
use Rattle.wgsl_rules.specs.Layout.{amount, size, align, known_stride, stride, scalar_kind, atomic_kind, is_from_2_to_4, is_multiple_of, is_align_valid, has_fixed_layout, have_fixed_layouts, is_runtime_array, end_in_runtime_array, has_runtime_layout, has_layout, Layout, scalar, composite, Parts, no_parts, part, type_in, repeated, leaf, layout, member_parts}
use Rattle.wgsl_rules.proofs.lemmas.Known.{and-both, some-of, fitting-is, both-known, times-known, end-known, ends-known}
use Rattle.wgsl_layout.specs.Ranges.{Range, further, part_at, parts_in, range_in}
use Rattle.wgsl_layout.specs.Laws.{IsPlaceOf}
use Rattle.wgsl_layout.proofs.lemmas.Fixed.{first-fixed, fixed-array, fixed-mat, last-runtime}
use Rattle.wgsl_layout.proofs.lemmas.Tidy.{open-from}
use Rattle.wgsl_layout.proofs.lemmas.ViewPaths.{layout-type}

-- ---- powers of two

abbrev pub IsPower : ℕ → Type 0
IsPower a = (k : ℕ) × (a ≡ 2 ^ k)

power-in : (d a : ℕ) → a ≤ d → count_ones a ≡ 1 → IsPower a
power-in zero a le one = let few = ones_le_self a in absurd (omega arith)
power-in (suc d) a le one = by (count_ones (a / 2)) refl (λ l e. power-in d (a / 2) l e)
  where
    by : (n : ℕ) → count_ones (a / 2) ≡ n → (a / 2 ≤ d → count_ones (a / 2) ≡ 1 → IsPower (a / 2)) → IsPower a
    by zero e on = let step = ones_step a in let half = zero_from_ones (a / 2) e in (0, omega arith)
    by (suc n) e on =
        let step = ones_step a in
        let half = on (omega arith) (omega arith) in
        let power = half.1 in
        let next = pow-suc 2 half.0 in
        (suc half.0, omega arith)

power-is : (a : ℕ) → is_power_of_two a ≡ true → IsPower a
power-is a h = let one : count_ones a ≡ 1 = grind (arith, nat_tests) in power-in a a (omega arith) one

power-some : (a : ℕ) → IsPower a → 1 ≤ a
power-some a p = let h = pow_pos p.0 in let e = p.1 in omega arith

-- of two powers the greater is a multiple of the other
powers-divide : (a b : ℕ) → IsPower a → IsPower b → a ≤ b → a ∣ b
powers-divide a b p q le = by (nat_le p.0 q.0) refl
  where
    by : (t : Bool) → nat_le p.0 q.0 ≡ t → a ∣ b
    by true is =
        let kle : p.0 ≤ q.0 = grind (arith, nat_tests) in
        let more : p.0 + (q.0 - p.0) ≡ q.0 = omega arith in
        let e = pow-add 2 p.0 (q.0 - p.0) in
        let whole : a * 2 ^ (q.0 - p.0) ≡ b = ap (λ (x : ℕ). x * 2 ^ (q.0 - p.0)) p.1 ∙ sym e ∙ ap (λ (x : ℕ). 2 ^ x) more ∙ sym q.1 in
        subst (λ (x : ℕ). a ∣ x) whole (dvd-mul_right a (2 ^ (q.0 - p.0)))
    by false is =
        let kle : q.0 ≤ p.0 = grind (arith, nat_tests) in
        let other = pow-le-pow_right {n = 2} (omega arith) kle in
        let ea = p.1 in let eb = q.1 in
        let same : a ≡ b = omega arith in
        subst (λ (x : ℕ). a ∣ x) same (dvd_refl a)

-- what is rounded up is a multiple
rounded-divides : (a n m : ℕ) → round_up a n ≡ Some m → a ∣ m
rounded-divides a n m e = by (nat_lt 0 a) refl e
  where
    next : (r k : ℕ) → 0 < a → n % a ≡ r → a * k + r ≡ n → a ∣ n + (a - r) % a
    next zero k some er en =
        let z : (a - 0) % a ≡ 0 = mod-eq-zero_of_dvd a (subst (λ (x : ℕ). a ∣ x) (omega arith) (dvd_refl a)) in
        subst (λ (x : ℕ). a ∣ x) (omega arith) (dvd-mul_right a k)
    next (suc r) k some er en =
        let lt = mod-lt n some in
        let low : (a - suc r) % a ≡ a - suc r = mod-eq_of_lt (omega arith) in
        subst (λ (x : ℕ). a ∣ x) (omega arith) (dvd-add a (dvd-mul_right a k) (dvd_refl a))

    by : (t : Bool) → nat_lt 0 a ≡ t → (if t then fitting (next_multiple_of n a) else None) ≡ Some m → a ∣ m
    by true is f =
        let some : 0 < a = grind (arith, nat_tests) in
        subst (λ (x : ℕ). a ∣ x) (sym (fitting-is (next_multiple_of n a) m f).0) (next (n % a) (n / a) some refl (div-add-mod n a))
    by false is f = absurd (cc)

-- nothing is rounded up to 0
rounded-some : (a n m : ℕ) → round_up a n ≡ Some m → 1 ≤ a
rounded-some a n m e = by (nat_lt 0 a) refl e
  where
    by : (t : Bool) → nat_lt 0 a ≡ t → (if t then fitting (next_multiple_of n a) else None) ≡ Some m → 1 ≤ a
    by true is f = grind (arith, nat_tests)
    by false is f = absurd (cc)

-- ---- layouts

-- each part stands at a multiple of its alignment, of which that of the whole is a multiple too
abbrev mutual
  pub IsAligned : Layout → Type 0
  IsAligned (scalar t k) = Unit {0}
  IsAligned (composite t len ps) = AreAligned (align t) ps

  pub AreAligned : ℕ → Parts → Type 0
  AreAligned a no_parts = Unit {0}
  AreAligned a (part o l ps) = (align (type_in l) ∣ o) × (align (type_in l) ∣ a) × IsAligned l × AreAligned a ps

repeated-aligned : (l : Layout) (a stride from n : ℕ) → IsAligned l → align (type_in l) ∣ stride → align (type_in l) ∣ from → align (type_in l) ∣ a → AreAligned a (repeated l stride from n)
repeated-aligned l a stride from zero is s f d = tt
repeated-aligned l a stride from (suc n) is s f d = (f, d, is, repeated-aligned l a stride (from + stride) n is s (dvd-add (align (type_in l)) f s) d)

-- of a range in what has the alignment a
record IsAlignedIn (a : ℕ) (r : Range) : Type 0 where
  place : align (type_in r.layout) ∣ r.start
  whole : align (type_in r.layout) ∣ a
  inner : IsAligned r.layout

part-aligned : (i a : ℕ) (ps : Parts) (r : Range) → AreAligned a ps → part_at i ps ≡ Some r → IsAlignedIn a r
part-aligned i a no_parts r h e = absurd (cc)
part-aligned zero a (part o l ps) r h e =
    let same : record { start = o; layout = l } ≡ r = cc in
    subst (IsAlignedIn a) same (record { place = h.0; whole = h.1; inner = h.2 })
part-aligned (suc i) a (part o l ps) r h e = part-aligned i a ps r h.3 e

parts-aligned : (l : Layout) → IsAligned l → AreAligned (align (type_in l)) (parts_in l)
parts-aligned (scalar t k) h = tt
parts-aligned (composite t len ps) h = h

range-aligned : (p : List ℕ) (l : Layout) (r : Range) → IsAligned l → range_in p l ≡ Some r → IsAlignedIn (align (type_in l)) r
range-aligned [] l r h e =
    let same : record { start = 0; layout = l } ≡ r = cc in
    subst (IsAlignedIn (align (type_in l))) same (record { place = dvd-zero (align (type_in l)); whole = dvd_refl (align (type_in l)); inner = h })
range-aligned (i ∷ p) l r h e = by (λ q s is there. range-aligned p q.layout s is there) (part_at i (parts_in l)) refl e
  where
    Inner : Type 0
    Inner = (q s : Range) → IsAligned q.layout → range_in p q.layout ≡ Some s → IsAlignedIn (align (type_in q.layout)) s

    inner : (q : Range) → IsAlignedIn (align (type_in l)) q → (o : Option Range) → range_in p q.layout ≡ o → Inner → option_map (further q.start) o ≡ Some r → IsAlignedIn (align (type_in l)) r
    inner q here None is on e = absurd (cc)
    inner q here (Some s) is on e =
        let same : further q.start s ≡ r = cc in
        let deep = on q s here.inner is in
        let a = align (type_in s.layout) in
        subst (IsAlignedIn (align (type_in l))) same
        (record { place = dvd-add a (dvd_trans a deep.whole here.place) deep.place; whole = dvd_trans a deep.whole here.whole; inner = deep.inner })

    by : Inner → (o : Option Range) → part_at i (parts_in l) ≡ o → option_and_then (λ q. option_map (further q.start) (range_in p q.layout)) o ≡ Some r → IsAlignedIn (align (type_in l)) r
    by on None is e = absurd (cc)
    by on (Some q) is e = inner q (part-aligned i (align (type_in l)) (parts_in l) q (parts-aligned l h) is) (range_in p q.layout) refl on e

-- ---- types

-- the alignment is known, and the parts of the layout stand at multiples of theirs
record IsAlignedType (n : ℕ) (t : Ty) : Type 0 where
  power : (k : ℕ) × (align_of t ≡ Some (2 ^ k))
  aligned : IsAligned (layout n t)

align-power : (t : Ty) (k : ℕ) → align_of t ≡ Some (2 ^ k) → IsPower (align t)
align-power t k e = (k, ap amount e)

leaf-aligned : (t : Ty) (k : Option Kind) → IsAligned (leaf t k)
leaf-aligned t None = tt
leaf-aligned t (Some k) = tt

-- ---- vectors and matrices

of-2-to-4 : (P : ℕ → Type 0) (k : ℕ) → is_from_2_to_4 k ≡ true → P 2 → P 3 → P 4 → P k
of-2-to-4 P zero h two three four = absurd (false≢true h)
of-2-to-4 P (suc zero) h two three four = absurd (false≢true h)
of-2-to-4 P (suc (suc zero)) h two three four = two
of-2-to-4 P (suc (suc (suc zero))) h two three four = three
of-2-to-4 P (suc (suc (suc (suc zero)))) h two three four = four
of-2-to-4 P (suc (suc (suc (suc (suc k))))) h two three four = let le : suc (suc (suc (suc (suc k)))) ≤ 4 = grind (arith, nat_tests) in absurd (omega arith)

-- of a scalar, whose alignment is its size
record IsScalarOf (k : ℕ) (t : Ty) : Type 0 where
  power : (j : ℕ) × (align_of (vec k t) ≡ Some (2 ^ j))
  stride : align t ∣ size t
  whole : align t ∣ align (vec k t)
  scalars : (n : ℕ) → IsAligned (layout n t)

scalar-of : (k : ℕ) (t : Ty) → is_from_2_to_4 k ≡ true → is_some (scalar_kind t) ≡ true → IsScalarOf k t
scalar-of k i32 h s =
    of-2-to-4 (λ j. IsScalarOf j i32) k h (record { power = (3, refl); stride = dvd_refl 4; whole = dvd_of_mod-eq-zero 4 refl; scalars = λ n. tt })
    (record { power = (4, refl); stride = dvd_refl 4; whole = dvd_of_mod-eq-zero 4 refl; scalars = λ n. tt })
    (record { power = (4, refl); stride = dvd_refl 4; whole = dvd_of_mod-eq-zero 4 refl; scalars = λ n. tt })
scalar-of k u32 h s =
    of-2-to-4 (λ j. IsScalarOf j u32) k h (record { power = (3, refl); stride = dvd_refl 4; whole = dvd_of_mod-eq-zero 4 refl; scalars = λ n. tt })
    (record { power = (4, refl); stride = dvd_refl 4; whole = dvd_of_mod-eq-zero 4 refl; scalars = λ n. tt })
    (record { power = (4, refl); stride = dvd_refl 4; whole = dvd_of_mod-eq-zero 4 refl; scalars = λ n. tt })
scalar-of k i64 h s =
    of-2-to-4 (λ j. IsScalarOf j i64) k h (record { power = (4, refl); stride = dvd_refl 8; whole = dvd_of_mod-eq-zero 8 refl; scalars = λ n. tt })
    (record { power = (5, refl); stride = dvd_refl 8; whole = dvd_of_mod-eq-zero 8 refl; scalars = λ n. tt })
    (record { power = (5, refl); stride = dvd_refl 8; whole = dvd_of_mod-eq-zero 8 refl; scalars = λ n. tt })
scalar-of k u64 h s =
    of-2-to-4 (λ j. IsScalarOf j u64) k h (record { power = (4, refl); stride = dvd_refl 8; whole = dvd_of_mod-eq-zero 8 refl; scalars = λ n. tt })
    (record { power = (5, refl); stride = dvd_refl 8; whole = dvd_of_mod-eq-zero 8 refl; scalars = λ n. tt })
    (record { power = (5, refl); stride = dvd_refl 8; whole = dvd_of_mod-eq-zero 8 refl; scalars = λ n. tt })
scalar-of k t h s = absurd (false≢true s)

-- parts alike, each of the type t
alike-aligned : (n a stride k : ℕ) (t : Ty) → IsAligned (layout n t) → align t ∣ stride → align t ∣ a → AreAligned a (repeated (layout n t) stride 0 k)
alike-aligned n a stride k t is s d =
    let e : align t ≡ align (type_in (layout n t)) = ap align (sym (layout-type t n)) in
    let own = align (type_in (layout n t)) in
    repeated-aligned (layout n t) a stride 0 k is (subst (λ (x : ℕ). x ∣ stride) e s) (dvd-zero own) (subst (λ (x : ℕ). x ∣ a) e d)

vector-aligned : (n k : ℕ) (t : Ty) → is_from_2_to_4 k ≡ true → is_some (scalar_kind t) ≡ true → IsAlignedType n (vec k t)
vector-aligned n k t h s =
    let one = scalar-of k t h s in
    record { power = one.power; aligned = alike-aligned n (align (vec k t)) (size t) k t (one.scalars n) one.stride one.whole }

matrix-aligned : (n c r : ℕ) (t : Ty) → is_from_2_to_4 r ≡ true → is_some (scalar_kind t) ≡ true → IsAlignedType n (mat c r t)
matrix-aligned n c r t h s =
    let column = vector-aligned n r t h s in
    let a = align (vec r t) in
    record { power = column.power; aligned = alike-aligned n a a c (vec r t) column.aligned (dvd_refl a) (dvd_refl a) }

-- ---- arrays

elements-aligned : (n k : ℕ) (t : Ty) → IsAlignedType n t → is_some (known_stride t) ≡ true → AreAligned (align t) (repeated (layout n t) (stride t) 0 k)
elements-aligned n k t is known =
    let g = some-of (known_stride t) known in
    let b = both-known round_up (align_of t) (size_of t) g.0 g.1 in
    let al : b.0 ≡ align t = ap amount (sym b.2) in
    let st : g.0 ≡ stride t = ap amount (sym g.1) in
    let multiple = subst (λ (x : ℕ). x ∣ g.0) al (rounded-divides b.0 b.1 g.0 b.4) in
    alike-aligned n (align t) (stride t) k t is.aligned (subst (λ (x : ℕ). align t ∣ x) st multiple) (dvd_refl (align t))

-- ---- members

-- a number that is 0 or such a power
abbrev OrPower : ℕ → Type 0
OrPower a = 1 ≤ a → IsPower a

greater-power : (a b : ℕ) → OrPower a → IsPower b → OrPower (max a b)
greater-power a b p q = by (nat_le a b) refl
  where
    by : (t : Bool) → nat_le a b ≡ t → OrPower (max a b)
    by true is = let le : a ≤ b = grind (arith, nat_tests) in let e : b ≡ max a b = omega arith in λ some. subst IsPower e q
    by false is = let le : b ≤ a = grind (arith, nat_tests) in let e : a ≡ max a b = omega arith in λ some. subst IsPower e (p (omega arith))

-- members and their places, where the greatest alignment of those in front of them is `from`
record AreMembers (from : ℕ) (ms : List Extent) (ps : Parts) : Type 0 where
  greatest : ℕ
  known : greatest_align (Some from) ms ≡ Some greatest
  more : from ≤ greatest
  power : OrPower greatest
  aligned : (a : ℕ) → IsPower a → greatest ≤ a → AreAligned a ps

-- the alignment of a member of the type, by its attribute or without one
record IsMember (t : Ty) (m : Extent) : Type 0 where
  own : ℕ
  known : m.align ≡ Some own
  power : IsPower own
  multiple : align t ∣ own

member-is : (t : Ty) (k : ℕ) (s a : Option ℕ) → align_of t ≡ Some (2 ^ k) → is_align_valid a (align_of t) ≡ true → IsMember t (extent_in t s a)
member-is t k s None e h =
    let same : align t ≡ 2 ^ k = ap amount e in
    record { own = 2 ^ k; known = e; power = (k, refl); multiple = subst (λ (x : ℕ). align t ∣ x) same (dvd_refl (align t)) }
member-is t k s (Some b) e h =
    let both = and-both (is_power_of_two b) (is_multiple_of b (align_of t)) h in
    let multiple : is_multiple_of b (Some (2 ^ k)) ≡ true = ap (is_multiple_of b) (sym e) ∙ both.1 in
    let rest : b % 2 ^ k ≡ 0 = grind (arith, nat_tests) in
    let same : 2 ^ k ≡ align t = ap amount (sym e) in
    record { own = b; known = refl; power = power-is b both.0; multiple = subst (λ (x : ℕ). x ∣ b) same (dvd_of_mod-eq-zero (2 ^ k) rest) }

place-divides : (t : Ty) (m : Extent) (from o : ℕ) → IsMember t m → offset_after (Some from) m ≡ Some o → align t ∣ o
place-divides t m from o is e =
    let b = both-known round_up m.align (Some from) o e in
    let same : ◌≡◌ {A = Option ℕ} (Some b.0) (Some is.own) = sym b.2 ∙ is.known in
    let eq : b.0 ≡ is.own = cc in
    dvd_trans (align t) is.multiple (subst (λ (x : ℕ). x ∣ o) eq (rounded-divides b.0 b.1 o b.4))

-- one member and the rest
member-first : (n x o : ℕ) (t : Ty) (m : Extent) (ms : List Extent) (ps : Parts) → (is : IsMember t m) → OrPower x → align t ∣ o → IsAligned (layout n t)
    → AreMembers (max x is.own) ms ps → (all : AreMembers x (m ∷ ms) (part o (layout n t) ps)) × (1 ≤ all.greatest)
member-first n x o t m ms ps is p place l rest =
    let first : align_after (Some x) m ≡ Some (max x is.own) = ap (λ (b : Option ℕ). with_both (λ y z. Some (max y z)) (Some x) b) is.known in
    let some = power-some is.own is.power in
    let more = rest.more in
    let e : align t ≡ align (type_in (layout n t)) = ap align (sym (layout-type t n)) in
    let power = rest.power in (
      record {
        greatest = rest.greatest;
        known = ap (λ (b : Option ℕ). greatest_align b ms) first ∙ rest.known;
        more = omega arith;
        power = power;
        aligned = λ a q le. (
          subst (λ (y : ℕ). y ∣ o) e place,
          subst (λ (y : ℕ). y ∣ a) e (dvd_trans (align t) is.multiple (powers-divide is.own a is.power q (omega arith))),
          l,
          rest.aligned a q le,
        );
      },
      omega arith,
    )

no-members : (x : ℕ) → OrPower x → AreMembers x [] no_parts
no-members x p = record { greatest = x; known = refl; more = omega arith; power = p; aligned = λ a q le. tt }

-- a struct of such members
members-aligned : (n : ℕ) (name : List ℕ) (fs : Fields) → (is : AreMembers 0 (extents fs) (member_parts n (Some 0) fs)) → 1 ≤ is.greatest → IsAlignedType n (struct name fs)
members-aligned n name fs is some =
    let p = is.power some in
    let e : is.greatest ≡ align (struct name fs) = ap amount (sym is.known) in
    record { power = (p.0, is.known ∙ ap Some p.1); aligned = subst (λ (a : ℕ). AreAligned a (member_parts n (Some 0) fs)) e (is.aligned is.greatest p (omega arith)) }

-- ---- every fixed layout

mutual
  fixed-aligned : (t : Ty) (n : ℕ) → has_fixed_layout t ≡ true → IsAlignedType n t
  fixed-aligned i32 n h = record { power = (2, refl); aligned = tt }
  fixed-aligned u32 n h = record { power = (2, refl); aligned = tt }
  fixed-aligned i64 n h = record { power = (3, refl); aligned = tt }
  fixed-aligned u64 n h = record { power = (3, refl); aligned = tt }
  fixed-aligned (atomic t) n h = record { power = (2, refl); aligned = leaf-aligned (atomic t) (atomic_kind t) }
  fixed-aligned (vec k t) n h =
      let both = and-both (is_from_2_to_4 k) (is_some (scalar_kind t)) h in
      vector-aligned n k t both.0 both.1
  fixed-aligned (mat c r t) n h =
      let made = fixed-mat c r t h in
      matrix-aligned n c r t made.rows made.scalar
  fixed-aligned (array t (Some k)) n h =
      let made = fixed-array k t h in
      let is = fixed-aligned t n made.element in
      let g = some-of (size_of (array t (Some k))) made.sized in
      let m = times-known k (known_stride t) g.0 g.1 in
      record { power = is.power; aligned = elements-aligned n k t is (ap (λ (o : Option ℕ). is_some o) m.1) }
  fixed-aligned (struct name fs) n h =
      let both = and-both (have_fixed_layouts fs) (is_some (size_of (struct name fs))) h in
      let g = some-of (size_of (struct name fs)) both.1 in
      let b = both-known round_up (struct_align (extents fs)) (end_of_members (Some 0) (extents fs)) g.0 g.1 in
      let is = fields-aligned fs n 0 0 b.1 both.0 b.3 (λ some. absurd (omega arith)) in
      let both_known : ◌≡◌ {A = Option ℕ} (Some b.0) (Some is.greatest) = sym b.2 ∙ is.known in
      let same : b.0 ≡ is.greatest = cc in
      members-aligned n name fs is (subst (λ (a : ℕ). 1 ≤ a) same (rounded-some b.0 b.1 g.0 b.4))
  fixed-aligned t n h = absurd (false≢true h)

  fields-aligned : (fs : Fields) (n from x end : ℕ) → have_fixed_layouts fs ≡ true → end_of_members (Some from) (extents fs) ≡ Some end → OrPower x → AreMembers x (extents fs) (member_parts n (Some from) fs)
  fields-aligned no_fields n from x end h e p = no-members x p
  fields-aligned (field name t s a fs) n from x end h e p =
      let made = first-fixed t s a (have_fixed_layouts fs) h in
      let own = fixed-aligned t n made.fixed in
      let is = member-is t own.power.0 s a own.power.1 made.aligned in
      let y = ends-known (end_after (Some from) (extent_in t s a)) (extents fs) end e in
      let k = end-known from (extent_in t s a) y.0 y.1 in
      let ends : end_of_members (Some y.0) (extents fs) ≡ Some end = subst (λ (o : Option ℕ). end_of_members o (extents fs) ≡ Some end) y.1 e in
      let rest = fields-aligned fs n y.0 (max x is.own) end made.rest ends (greater-power x is.own p is.power) in
      let all = member-first n x k.0 t (extent_in t s a) (extents fs) (member_parts n (Some y.0) fs) is p (place-divides t (extent_in t s a) from k.0 is k.2) own.aligned rest in
      placed-member n x k.0 y.0 (offset_after (Some from) (extent_in t s a)) (end_after (Some from) (extent_in t s a)) t (extent_in t s a) fs k.2 y.1 all.0
    where
      placed-member : (n x o y : ℕ) (off aft : Option ℕ) (t : Ty) (m : Extent) (fs : Fields) → off ≡ Some o → aft ≡ Some y
          → AreMembers x (m ∷ extents fs) (part o (layout n t) (member_parts n (Some y) fs)) → AreMembers x (m ∷ extents fs) (part (amount off) (layout n t) (member_parts n aft fs))
      placed-member n x o y off aft t m fs eo ea is =
          subst (λ (b : Option ℕ). AreMembers x (m ∷ extents fs) (part (amount off) (layout n t) (member_parts n b fs))) (sym ea)
          (subst (λ (b : Option ℕ). AreMembers x (m ∷ extents fs) (part (amount b) (layout n t) (member_parts n (Some y) fs))) (sym eo) is)

-- ---- layouts that are or end in a runtime-sized array

array-aligned : (t : Ty) (n : ℕ) → is_runtime_array t ≡ true → IsAlignedType n t
array-aligned (array t None) n h =
    let both = and-both (has_fixed_layout t) (is_some (known_stride t)) h in
    let is = fixed-aligned t n both.0 in
    record { power = is.power; aligned = elements-aligned n n t is both.1 }
array-aligned t n h = absurd (false≢true h)

-- of one member at least, so that there is an alignment
abbrev AreOpen : ℕ → List Extent → Parts → Type 0
AreOpen x ms ps = (all : AreMembers x ms ps) × (1 ≤ all.greatest)

open-aligned : (fs : Fields) (n from x : ℕ) → end_in_runtime_array (Some from) fs ≡ true → OrPower x → AreOpen x (extents fs) (member_parts n (Some from) fs)
open-aligned no_fields n from x h p = absurd (false≢true h)
open-aligned (field name t s a no_fields) n from x h p =
    let one = last-runtime t s a (Some from) h in
    let own = array-aligned t n one.0 in
    let is = member-is t own.power.0 s a own.power.1 one.2 in
    let o = some-of (offset_after (Some from) (extent_in t s a)) one.1 in
    let all = member-first n x o.0 t (extent_in t s a) [] no_parts is p (place-divides t (extent_in t s a) from o.0 is o.1) own.aligned (no-members (max x is.own) (greater-power x is.own p is.power)) in
    subst (λ (b : Option ℕ). AreOpen x (extent_in t s a ∷ []) (part (amount b) (layout n t) no_parts)) (sym o.1) all
open-aligned (field name t s a (field m u z b fs)) n from x h p =
    let made = first-fixed t s a (end_in_runtime_array (end_after (Some from) (extent_in t s a)) (field m u z b fs)) h in
    let own = fixed-aligned t n made.fixed in
    let is = member-is t own.power.0 s a own.power.1 made.aligned in
    let y = open-from (end_after (Some from) (extent_in t s a)) (field m u z b fs) made.rest in
    let k = end-known from (extent_in t s a) y.0 y.1 in
    let on = open-aligned (field m u z b fs) n y.0 (max x is.own) (ap (λ (o : Option ℕ). end_in_runtime_array o (field m u z b fs)) (sym y.1) ∙ made.rest) (greater-power x is.own p is.power) in
    let all = member-first n x k.0 t (extent_in t s a) (extents (field m u z b fs)) (member_parts n (Some y.0) (field m u z b fs)) is p (place-divides t (extent_in t s a) from k.0 is k.2) own.aligned on.0 in
    placed-open n x k.0 y.0 (offset_after (Some from) (extent_in t s a)) (end_after (Some from) (extent_in t s a)) t (extent_in t s a) (field m u z b fs) k.2 y.1 all
  where
    placed-open : (n x o y : ℕ) (off aft : Option ℕ) (t : Ty) (m : Extent) (fs : Fields) → off ≡ Some o → aft ≡ Some y
        → AreOpen x (m ∷ extents fs) (part o (layout n t) (member_parts n (Some y) fs)) → AreOpen x (m ∷ extents fs) (part (amount off) (layout n t) (member_parts n aft fs))
    placed-open n x o y off aft t m fs eo ea is =
        subst (λ (b : Option ℕ). AreOpen x (m ∷ extents fs) (part (amount off) (layout n t) (member_parts n b fs))) (sym ea)
        (subst (λ (b : Option ℕ). AreOpen x (m ∷ extents fs) (part (amount b) (layout n t) (member_parts n (Some y) fs))) (sym eo) is)

runtime-aligned : (t : Ty) (n : ℕ) → has_runtime_layout t ≡ true → IsAlignedType n t
runtime-aligned (struct name fs) n h = let is = open-aligned fs n 0 0 h (λ some. absurd (omega arith)) in members-aligned n name fs is.0 is.1
runtime-aligned (array t None) n h = array-aligned (array t None) n h
runtime-aligned t n h = absurd (false≢true h)

-- ---- every type that has a layout

type-aligned : (t : Ty) (n : ℕ) → has_layout t ≡ true → IsAlignedType n t
type-aligned t n h = by (has_fixed_layout t) refl h
  where
    by : (b : Bool) → has_fixed_layout t ≡ b → (b || has_runtime_layout t) ≡ true → IsAlignedType n t
    by true is h = fixed-aligned t n is
    by false is h = runtime-aligned t n h

-- the range of a part begins at a multiple of the alignment of its type
pub placed : (t u : Ty) (n m : ℕ) (p : List ℕ) (r : Range) → has_layout t ≡ true → has_layout u ≡ true → range_in p (layout n t) ≡ Some r → r.layout ≡ layout m u → IsPlaceOf u r.start
placed t u n m p r h k there own =
    let is = range-aligned p (layout n t) r (type-aligned t n h).aligned there in
    let power = (type-aligned u m k).power in
    let e : align (type_in r.layout) ≡ 2 ^ power.0 = ap (λ (l : Layout). align (type_in l)) own ∙ ap align (layout-type u m) ∙ ap amount power.1 in
    let multiple = mod-eq-zero_of_dvd (2 ^ power.0) (subst (λ (a : ℕ). a ∣ r.start) e is.place) in
    subst (λ (o : Option ℕ). IsSomeAnd o (λ a. (1 ≤ a) × (r.start % a ≡ 0))) (sym power.1) (power-some (2 ^ power.0) (power.0, refl), multiple)
