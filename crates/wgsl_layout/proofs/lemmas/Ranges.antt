-- Parts in order: what stands where in the bytes of a layout. One induction over layouts serves each sort of
-- composite.
use Rattle.std.proofs.Common.{◌≡◌, ℕ, zero, suc, ◌+◌, ◌-◌, ◌<◌, ◌≤◌, ℤ, List, [], ◌∷◌, ◌++◌, map, length, take, drop, Option, Some, None, option_map, option_and_then, false, cond, refl, ap, ◌∙◌, subst, arith}
use Rattle.std.proofs.lemmas.Bool.Decides.{nat_tests}
use Rattle.std.specs.Prelude.{nat_le, nat_lt, ◌&&◌}
use Rattle.std.specs.List.{range_with_len}
use Rattle.wgsl_rules.specs.Kinds.{bytes_of}
use Rattle.wgsl_rules.specs.Layout.{Layout, scalar, composite, Parts, no_parts, part, length_in, Leaf, under, leaves, part_leaves}
use Rattle.wgsl_layout.specs.Buffers.{covers, byte_at, byte_of, bytes_with}
use Rattle.wgsl_layout.specs.Ranges.{Range, further, part_at, parts_in, range_in, bytes_in}
use Rattle.wgsl_layout.specs.Laws.{AreInOrder}
pub use Rattle.wgsl_rules.proofs.lemmas.Tests.{inside as covered-in}

-- ---- parts in order

-- each part begins where the one before it ends, or later, and the last ends inside
abbrev mutual
  pub IsTidy : Layout → Type 0
  IsTidy (scalar t k) = Unit {0}
  IsTidy (composite t len ps) = AreTidy 0 ps len

  pub AreTidy : ℕ → Parts → ℕ → Type 0
  AreTidy from no_parts to = from ≤ to
  AreTidy from (part o l ps) to = (from ≤ o) × IsTidy l × AreTidy (o + length_in l) ps to

pub tidy-length : (from to : ℕ) (ps : Parts) → AreTidy from ps to → from ≤ to
tidy-length from to no_parts h = h
tidy-length from to (part o l ps) h = let rest = tidy-length (o + length_in l) to ps h.2 in omega (arith, h.0)

-- ---- leaves in order

pub order-later : (a b to : ℕ) (ls : List Leaf) → b ≤ a → AreInOrder a ls to → AreInOrder b ls to
order-later a b to [] e h = omega arith
order-later a b to (l ∷ ls) e h = (omega (arith, h.0), h.1)

pub order-append : (a b to : ℕ) (ls ms : List Leaf) → AreInOrder a ls b → AreInOrder b ms to → AreInOrder a (ls ++ ms) to
order-append a b to [] ms h k = order-later b a to ms h k
order-append a b to (l ∷ ls) ms h k = (h.0, order-append (l.offset + bytes_of l.kind) b to ls ms h.1 k)

pub order-under : (i o a b : ℕ) (ls : List Leaf) → AreInOrder a ls b → AreInOrder (o + a) (map (under i o) ls) (o + b)
order-under i o a b [] h = omega arith
order-under i o a b (l ∷ ls) h =
    let e : o + (l.offset + bytes_of l.kind) ≡ o + l.offset + bytes_of l.kind = omega arith in
    (omega (arith, h.0), rw e at (order-under i o (l.offset + bytes_of l.kind) b ls h.1))

mutual
  pub leaves-order : (l : Layout) → IsTidy l → AreInOrder 0 (leaves l) (length_in l)
  leaves-order (scalar t k) h = (omega arith, omega arith)
  leaves-order (composite t len ps) h = part_leaves-order ps 0 0 len h

  pub part_leaves-order : (ps : Parts) (i from to : ℕ) → AreTidy from ps to → AreInOrder from (part_leaves i ps) to
  part_leaves-order no_parts i from to h = h
  part_leaves-order (part o l ps) i from to h =
      let e : o + 0 ≡ o = omega arith in
      let here = order-under i o 0 (length_in l) (leaves l) (leaves-order l h.1) in
      order-append from (o + length_in l) to (map (under i o) (leaves l)) (part_leaves (suc i) ps)
      (order-later o from (o + length_in l) (map (under i o) (leaves l)) h.0 (rw e at here))
      (part_leaves-order ps (suc i) (o + length_in l) to h.2)

-- ---- the byte at a position

pub before : (o n j : ℕ) → j < o → (nat_le o j && nat_lt j (o + n)) ≡ false
before o n j h = grind (arith, nat_tests)

pub behind : (o n j : ℕ) → o + n ≤ j → (nat_le o j && nat_lt j (o + n)) ≡ false
behind o n j h = grind (arith, nat_tests)

moved : (p o n j : ℕ) → (nat_le (o + p) (o + j) && nat_lt (o + j) (o + p + n)) ≡ (nat_le p j && nat_lt j (p + n))
moved p o n j = grind (arith, nat_tests)

pub order-bound : (a b : ℕ) (ls : List Leaf) → AreInOrder a ls b → a ≤ b
order-bound a b [] h = h
order-bound a b (l ∷ ls) h = let rest = order-bound (l.offset + bytes_of l.kind) b ls h.1 in omega (arith, h.0)

-- leaves that begin behind j give it nothing
pub byte-below : (f : List ℕ → ℤ) (ls ms : List Leaf) (a b j : ℕ) → AreInOrder a ms b → j < a → byte_at f (ls ++ ms) j ≡ byte_at f ls j
byte-below f [] [] a b j h lt = refl
byte-below f [] (m ∷ ms) a b j h lt =
    rw (before m.offset (bytes_of m.kind) j (omega (arith, h.0))) (byte-below f [] ms (m.offset + bytes_of m.kind) b j h.1 (omega (arith, h.0)))
byte-below f (l ∷ ls) ms a b j h lt = ap (cond (covers l j) (byte_of (f l.path) (j - l.offset))) (byte-below f ls ms a b j h lt)

-- nor do leaves that end before it
pub byte-above : (f : List ℕ → ℤ) (ls ms : List Leaf) (a b j : ℕ) → AreInOrder a ls b → b ≤ j → byte_at f (ls ++ ms) j ≡ byte_at f ms j
byte-above f [] ms a b j h le = refl
byte-above f (l ∷ ls) ms a b j h le =
    let bound = order-bound (l.offset + bytes_of l.kind) b ls h.1 in
    rw (behind l.offset (bytes_of l.kind) j (omega arith)) (byte-above f ls ms (l.offset + bytes_of l.kind) b j h.1 le)

-- leaves that are moved give the bytes that they gave
pub byte-under : (f : List ℕ → ℤ) (i o : ℕ) (ls : List Leaf) (j k : ℕ) → k ≡ o + j → byte_at f (map (under i o) ls) k ≡ byte_at (λ p. f (i ∷ p)) ls j
byte-under f i o [] j k e = refl
byte-under f i o (l ∷ ls) j k e =
    let c = moved l.offset o (bytes_of l.kind) j in
    let d : o + j - (o + l.offset) ≡ j - l.offset = omega arith in
    rw (e, c, d, byte-under f i o ls j (o + j) refl) refl

-- ---- one part

-- the part stands inside, and its bytes are those of its own leaves
pub record IsPart (f : List ℕ → ℤ) (ls : List Leaf) (p : List ℕ) (from to : ℕ) (r : Range) : Type 0 where
  pub tidy : IsTidy r.layout
  pub after : from ≤ r.start
  pub inside : r.start + length_in r.layout ≤ to
  pub same_bytes : (j : ℕ) → j < length_in r.layout → byte_at f ls (r.start + j) ≡ byte_at (λ q. f (p ++ q)) (leaves r.layout) j

pub part-is : (f : List ℕ → ℤ) (ps : Parts) (i k n from to : ℕ) (r : Range) → n ≡ i + k → AreTidy from ps to → part_at k ps ≡ Some r → IsPart f (part_leaves i ps) (n ∷ []) from to r
part-is f no_parts i k n from to r en h e = absurd (cc)
part-is f (part o l ps) i zero n from to r en h e =
    let same : record { start = o; layout = l } ≡ r = cc in
    let rest = tidy-length (o + length_in l) to ps h.2 in
    let eo : o + 0 ≡ o = omega arith in
    let en' : i ≡ n = omega arith in
    subst (λ (q : Range). IsPart f (part_leaves i (part o l ps)) (n ∷ []) from to q) same
    (record {
      tidy = h.1;
      after = h.0;
      inside = rest;
      same_bytes = λ j lt.
          byte-below f (map (under i o) (leaves l)) (part_leaves (suc i) ps) (o + length_in l) to (o + j) (part_leaves-order ps (suc i) (o + length_in l) to h.2) (omega arith)
          ∙ byte-under f i o (leaves l) j (o + j) refl ∙ ap (λ (m : ℕ). byte_at (λ q. f (m ∷ q)) (leaves l) j) en';
    })
part-is f (part o l ps) i (suc k) n from to r en h e =
    let rest = part-is f ps (suc i) k n (o + length_in l) to r (omega arith) h.2 e in
    let mine = leaves-order l h.1 in
    let eo : o + 0 ≡ o = omega arith in
    record {
      tidy = rest.tidy;
      after = omega (arith, rest.after, h.0);
      inside = rest.inside;
      same_bytes = λ j lt.
          byte-above f (map (under i o) (leaves l)) (part_leaves (suc i) ps) (o + 0) (o + length_in l) (r.start + j) (order-under i o 0 (length_in l) (leaves l) mine) (omega (arith, rest.after))
          ∙ rest.same_bytes j lt;
    }

-- ---- the part at a path

-- what is so of a part of a part
part-of-part : (f : List ℕ → ℤ) (ls : List Leaf) (i to : ℕ) (p : List ℕ) (r s : Range)
    → IsPart f ls (i ∷ []) 0 to r → IsPart (λ q. f (i ∷ q)) (leaves r.layout) p 0 (length_in r.layout) s → IsPart f ls (i ∷ p) 0 to (further r.start s)
part-of-part f ls i to p r s h k =
    record {
      tidy = k.tidy;
      after = omega arith;
      inside = omega (arith, h.inside, k.inside);
      same_bytes = λ j lt.
          let e : r.start + s.start + j ≡ r.start + (s.start + j) = omega arith in
          rw e (h.same_bytes (s.start + j) (omega (arith, k.inside)) ∙ k.same_bytes j lt);
    }

pub the-parts : (l : Layout) → IsTidy l → AreTidy 0 (parts_in l) (length_in l)
the-parts (scalar t k) h = omega arith
the-parts (composite t len ps) h = h

-- a scalar has no parts, so what stands in a part of a layout stands in its parts
pub parts-leaves : (f : List ℕ → ℤ) (l : Layout) (k : ℕ) (r : Range) → part_at k (parts_in l) ≡ Some r
    → IsPart f (part_leaves 0 (parts_in l)) (k ∷ []) 0 (length_in l) r → IsPart f (leaves l) (k ∷ []) 0 (length_in l) r
parts-leaves f (scalar t kind) k r e h = absurd (cc)
parts-leaves f (composite t len ps) k r e h = h

pub range-is : (f : List ℕ → ℤ) (p : List ℕ) (l : Layout) (r : Range) → IsTidy l → range_in p l ≡ Some r → IsPart f (leaves l) p 0 (length_in l) r
range-is f [] l r h e =
    let same : record { start = 0; layout = l } ≡ r = cc in
    subst (λ (q : Range). IsPart f (leaves l) [] 0 (length_in l) q) same
    (record { tidy = h; after = omega arith; inside = omega arith; same_bytes = λ j lt. let z : 0 + j ≡ j = omega arith in rw z refl })
range-is f (i ∷ p) l r h e = by (λ q s t there. range-is (λ x. f (i ∷ x)) p q.layout s t there) (part_at i (parts_in l)) refl e
  where
    Inner : Type 0
    Inner = (q s : Range) → IsTidy q.layout → range_in p q.layout ≡ Some s → IsPart (λ x. f (i ∷ x)) (leaves q.layout) p 0 (length_in q.layout) s

    inner : (q : Range) → IsPart f (leaves l) (i ∷ []) 0 (length_in l) q → (o : Option Range) → range_in p q.layout ≡ o → Inner
        → option_map (further q.start) o ≡ Some r → IsPart f (leaves l) (i ∷ p) 0 (length_in l) r
    inner q here None is on e = absurd (cc)
    inner q here (Some s) is on e =
        let same : further q.start s ≡ r = cc in
        subst (λ (x : Range). IsPart f (leaves l) (i ∷ p) 0 (length_in l) x) same (part-of-part f (leaves l) i (length_in l) p q s here (on q s here.tidy is))

    by : Inner → (o : Option Range) → part_at i (parts_in l) ≡ o → option_and_then (λ q. option_map (further q.start) (range_in p q.layout)) o ≡ Some r
        → IsPart f (leaves l) (i ∷ p) 0 (length_in l) r
    by on None is e = absurd (cc)
    by on (Some q) is e =
        let here = parts-leaves f l i q is (part-is f (parts_in l) 0 i i 0 (length_in l) q (omega arith) (the-parts l h) is) in
        inner q here (range_in p q.layout) refl on e

-- ---- runs of bytes

pub taken : (f : ℕ → ℕ) (a s n len : ℕ) → s + n ≤ len → take n (drop s (map f (range_with_len a len))) ≡ map f (range_with_len (a + s) n)
taken f a zero zero len h = refl
taken f a zero (suc n) zero h = absurd (omega arith)
taken f a zero (suc n) (suc len) h =
    let e : a + 0 ≡ a = omega arith in
    let e' : a + 1 + 0 ≡ a + 1 = omega arith in
    rw e (ap (λ xs. f a ∷ xs) (rw e' at (taken f (a + 1) zero n len (omega arith))))
taken f a (suc s) n zero h = let z : n ≡ 0 = omega arith in rw z refl
taken f a (suc s) n (suc len) h = let e : a + suc s ≡ a + 1 + s = omega arith in rw e (taken f (a + 1) s n len (omega arith))

pub alike : (f g : ℕ → ℕ) (a b n : ℕ) → ((j : ℕ) → j < n → f (a + j) ≡ g (b + j)) → map f (range_with_len a n) ≡ map g (range_with_len b n)
alike f g a b zero h = refl
alike f g a b (suc n) h =
    let ea : a + 0 ≡ a = omega arith in
    let eb : b + 0 ≡ b = omega arith in
    let first = rw (ea, eb) at (h 0 (omega arith)) in
    let rest = alike f g (a + 1) (b + 1) n (λ j lt.
    let fa : a + 1 + j ≡ a + suc j = omega arith in
    let fb : b + 1 + j ≡ b + suc j = omega arith in
    rw (fa, fb) (h (suc j) (omega arith))) in
    cc (first, rest)

-- the bytes in the range of a part are its own
pub bytes-of-part : (f : List ℕ → ℤ) (p : List ℕ) (l : Layout) (r : Range) → IsTidy l → range_in p l ≡ Some r
    → bytes_in (bytes_with f l) r ≡ bytes_with (λ q. f (p ++ q)) r.layout
bytes-of-part f p l r h e =
    let at_path = range-is f p l r h e in
    taken (byte_at f (leaves l)) 0 r.start (length_in r.layout) (length_in l) at_path.inside
    ∙ alike (byte_at f (leaves l)) (byte_at (λ q. f (p ++ q)) (leaves r.layout)) (0 + r.start) 0 (length_in r.layout) (λ j lt.
    let e0 : 0 + r.start ≡ r.start = omega arith in
    let e1 : 0 + j ≡ j = omega arith in
    rw (e0, e1) (at_path.same_bytes j lt))

length-run : (f : ℕ → ℕ) (a n : ℕ) → length (map f (range_with_len a n)) ≡ n
length-run f a zero = refl
length-run f a (suc n) = ap suc (length-run f (a + 1) n)

pub length-bytes : (f : List ℕ → ℤ) (l : Layout) → length (bytes_with f l) ≡ length_in l
length-bytes f l = length-run (byte_at f (leaves l)) 0 (length_in l)
