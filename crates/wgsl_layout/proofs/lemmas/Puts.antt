-- What changes in the bytes of a layout where the numbers of one part change: the range of the part. One
-- induction over layouts serves each sort of composite.
use Rattle.std.proofs.Common.{◌≡◌, ◌≢◌, ◌⊎◌, ℕ, zero, suc, ◌+◌, ◌-◌, ◌<◌, ◌≤◌, ℤ, List, [], ◌∷◌, ◌++◌, map, length, take, drop, Option, Some, None, option_map, option_and_then, refl, sym, ap, ◌∙◌, arith, append-nil}
use Rattle.std.specs.List.{range_with_len}
use Rattle.wgsl_rules.specs.Laws.{Begins, Apart}
use Rattle.wgsl_rules.specs.Layout.{Layout, scalar, composite, Parts, no_parts, part, length_in, Leaf, under, leaves, part_leaves}
use Rattle.wgsl_layout.specs.Buffers.{byte_at, bytes_with}
use Rattle.wgsl_layout.specs.Ranges.{Range, further, part_at, parts_in, range_in, overwritten}
use Rattle.wgsl_layout.proofs.lemmas.Ranges.{IsTidy, AreTidy, IsPart, range-is, part-is, parts-leaves, the-parts, byte-below, byte-above, byte-under, part_leaves-order, leaves-order, order-under, taken, alike, length-bytes}
use mathlib.Core.Logic.{inl, inr}
use native.Mathlib.Decide.{dec_lt}

abbrev Same : (List ℕ → ℤ) → (List ℕ → ℤ) → List Leaf → ℕ → Type 0
Same f g ls j = byte_at f ls j ≡ byte_at g ls j

-- leaves of a part where both have the same numbers
under-same : (f g : List ℕ → ℤ) (i o : ℕ) (ks ms : List Leaf) (j : ℕ) → ((x : List ℕ) → f (i ∷ x) ≡ g (i ∷ x)) → Same f g ms j → Same f g (map (under i o) ks ++ ms) j
under-same f g i o [] ms j h e = e
under-same f g i o (k ∷ ks) ms j h e =
    let here = h k.path in
    let rest = under-same f g i o ks ms j h e in
    rw (here, rest) refl

parts-same : (f g : List ℕ → ℤ) (ps : Parts) (i j : ℕ) → ((m : ℕ) (x : List ℕ) → i ≤ m → f (m ∷ x) ≡ g (m ∷ x)) → Same f g (part_leaves i ps) j
parts-same f g no_parts i j h = refl
parts-same f g (part o l ps) i j h =
    under-same f g i o (leaves l) (part_leaves (suc i) ps) j (λ x. h i x (omega arith)) (parts-same f g ps (suc i) j (λ m x le. h m x (omega arith)))

abbrev pub IsOutside : ℕ → ℕ → ℕ → Type 0
IsOutside a n j = (j < a) ⊎ (a + n ≤ j)

-- one part: the position is outside of what changes in it, which begins `start` behind where it begins
part-same : (f g : List ℕ → ℤ) (ps : Parts) (i k n from to start len j : ℕ) (r : Range) → n ≡ i + k → AreTidy from ps to → part_at k ps ≡ Some r
    → ((m : ℕ) (x : List ℕ) → m ≢ n → f (m ∷ x) ≡ g (m ∷ x))
    → ((d : ℕ) → IsOutside start len d → Same (λ q. f (n ∷ q)) (λ q. g (n ∷ q)) (leaves r.layout) d)
    → start + len ≤ length_in r.layout → IsOutside (r.start + start) len j → Same f g (part_leaves i ps) j
part-same f g no_parts i k n from to start len j r en h e other mine fits out = absurd (cc)
part-same f g (part o l ps) i zero n from to start len j r en h e other mine fits out = by (dec_lt j o) (dec_lt j (o + length_in l))
  where
    same : record { start = o; layout = l } ≡ r
    same = cc

    ls : List Leaf
    ls = map (under i o) (leaves l)

    rest : List Leaf
    rest = part_leaves (suc i) ps

    own : (h : List ℕ → ℤ) → j < o + length_in l → (d : ℕ) → j ≡ o + d → byte_at h (ls ++ rest) j ≡ byte_at (λ q. h (i ∷ q)) (leaves l) d
    own h' lt d e = byte-below h' ls rest (o + length_in l) to j (part_leaves-order ps (suc i) (o + length_in l) to h.2) lt ∙ byte-under h' i o (leaves l) d j e

    eo : o + 0 ≡ o
    eo = omega arith

    past : (h : List ℕ → ℤ) → o + length_in l ≤ j → byte_at h (ls ++ rest) j ≡ byte_at h rest j
    past h' le = byte-above h' ls rest (o + 0) (o + length_in l) j (order-under i o 0 (length_in l) (leaves l) (leaves-order l h.1)) le

    none : (h : List ℕ → ℤ) → j < o → byte_at h (ls ++ rest) j ≡ byte_at h [] j
    none h' lt = byte-below h' [] (ls ++ rest) o to j (part_leaves-order (part o l ps) i o to (omega arith, h.1, h.2)) lt

    en' : n ≡ i
    en' = omega arith

    mine' : (d : ℕ) → IsOutside start len d → Same (λ q. f (i ∷ q)) (λ q. g (i ∷ q)) (leaves l) d
    mine' d o' = rw (← same, en') at (mine d o')

    turned : IsOutside (o + start) len j → o ≤ j → (d : ℕ) → j ≡ o + d → IsOutside start len d
    turned (inl lt) le d e = inl (omega arith)
    turned (inr ge) le d e = inr (omega arith)

    by : Dec (j < o) → Dec (j < o + length_in l) → Same f g (ls ++ rest) j
    by (yes lt) b = none f lt ∙ sym (none g lt)
    by (no a) (yes lt) =
        let ed : j ≡ o + (j - o) = omega arith in
        own f lt (j - o) ed ∙ mine' (j - o) (turned (rw (← same) at out) (omega arith) (j - o) ed) ∙ sym (own g lt (j - o) ed)
    by (no a) (no b) = past f (omega arith) ∙ parts-same f g ps (suc i) j (λ m x le. other m x (omega arith)) ∙ sym (past g (omega arith))
part-same f g (part o l ps) i (suc k) n from to start len j r en h e other mine fits out =
    under-same f g i o (leaves l) (part_leaves (suc i) ps) j (λ x. other i x (omega arith))
    (part-same f g ps (suc i) k n (o + length_in l) to start len j r (omega arith) h.2 e other mine fits out)

-- ---- the part at a path

begins-same : (i j : ℕ) (p q : List ℕ) → Begins (i ∷ p) (j ∷ q) → i ≡ j
begins-same i j p q b = cc (b.1)

apart-heads : (i m : ℕ) (p x : List ℕ) → m ≢ i → Apart (i ∷ p) (m ∷ x)
apart-heads i m p x h = (λ b. h (sym (begins-same i m p x b)), λ b. h (begins-same m i x p b))

begins-below : (i : ℕ) (p q : List ℕ) → Begins (i ∷ p) (i ∷ q) → Begins p q
begins-below i p q b = (b.0, cc (b.1))

apart-below : (i : ℕ) (p q : List ℕ) → Apart p q → Apart (i ∷ p) (i ∷ q)
apart-below i p q h = (λ b. h.0 (begins-below i p q b), λ b. h.1 (begins-below i q p b))

whole-none : (f : List ℕ → ℤ) (l : Layout) (j : ℕ) → IsTidy l → length_in l ≤ j → byte_at f (leaves l) j ≡ 0
whole-none f l j h le = rw append-nil at (byte-above f (leaves l) [] 0 (length_in l) j (leaves-order l h) le)

-- outside of the range of a part nothing changes, where the numbers at paths apart from it stay
pub same-outside : (f g : List ℕ → ℤ) (p : List ℕ) (l : Layout) (r : Range) (j : ℕ) → IsTidy l → range_in p l ≡ Some r
    → ((q : List ℕ) → Apart p q → f q ≡ g q) → IsOutside r.start (length_in r.layout) j → Same f g (leaves l) j
same-outside f g [] l r j h e stay out = by (rw (← is) at out)
  where
    is : record { start = 0; layout = l } ≡ r
    is = cc

    by : IsOutside 0 (length_in l) j → Same f g (leaves l) j
    by (inl lt) = absurd (omega arith)
    by (inr le) = whole-none f l j h (omega arith) ∙ sym (whole-none g l j h (omega arith))
same-outside f g (i ∷ p) l r j h e stay out =
    at_part l h (part_at i (parts_in l)) refl e (λ q s d t there o. same-outside (λ x. f (i ∷ x)) (λ x. g (i ∷ x)) p q.layout s d t there (λ x a. stay (i ∷ x) (apart-below i p x a)) o)
  where
    Inner : Type 0
    Inner = (q s : Range) (d : ℕ) → IsTidy q.layout → range_in p q.layout ≡ Some s → IsOutside s.start (length_in s.layout) d
        → Same (λ x. f (i ∷ x)) (λ x. g (i ∷ x)) (leaves q.layout) d

    of_parts : (l : Layout) (q : Range) → part_at i (parts_in l) ≡ Some q → Same f g (part_leaves 0 (parts_in l)) j → Same f g (leaves l) j
    of_parts (scalar t k) q is s = absurd (cc)
    of_parts (composite t len ps) q is s = s

    at_range : (l : Layout) → IsTidy l → (q : Range) → part_at i (parts_in l) ≡ Some q → (o : Option Range) → range_in p q.layout ≡ o → option_map (further q.start) o ≡ Some r → Inner → Same f g (leaves l) j
    at_range l h q is None there e on = absurd (cc)
    at_range l h q is (Some s) there e on =
        let same : further q.start s ≡ r = cc in
        let one = parts-leaves f l i q is (part-is f (parts_in l) 0 i i 0 (length_in l) q (omega arith) (the-parts l h) is) in
        let two = range-is (λ x. f (i ∷ x)) p q.layout s one.tidy there in
        of_parts l q is
        (part-same f g (parts_in l) 0 i i 0 (length_in l) s.start (length_in s.layout) j q (omega arith) (the-parts l h) is
        (λ m x other. stay (m ∷ x) (apart-heads i m p x other)) (λ d o. on q s d one.tidy there o) two.inside (rw (← same) at out))

    at_part : (l : Layout) → IsTidy l → (o : Option Range) → part_at i (parts_in l) ≡ o → option_and_then (λ q. option_map (further q.start) (range_in p q.layout)) o ≡ Some r → Inner → Same f g (leaves l) j
    at_part l h None is e on = absurd (cc)
    at_part l h (Some q) is e on = at_range l h q is (range_in p q.layout) refl e on

-- ---- runs of bytes

pub split : (f : ℕ → ℕ) (a m n : ℕ) → map f (range_with_len a (m + n)) ≡ map f (range_with_len a m) ++ map f (range_with_len (a + m) n)
split f a zero n = let e : 0 + n ≡ n = omega arith in let e' : a + 0 ≡ a = omega arith in rw (e, e') refl
split f a (suc m) n =
    let e : suc m + n ≡ suc (m + n) = omega arith in
    let e' : a + 1 + m ≡ a + suc m = omega arith in
    rw e (ap (λ xs. f a ∷ xs) (rw e' at (split f (a + 1) m n)))

dropped : (f : ℕ → ℕ) (a s n : ℕ) → drop s (map f (range_with_len a (s + n))) ≡ map f (range_with_len (a + s) n)
dropped f a zero n = let e : 0 + n ≡ n = omega arith in let e' : a + 0 ≡ a = omega arith in rw (e, e') refl
dropped f a (suc s) n =
    let e : suc s + n ≡ suc (s + n) = omega arith in
    let e' : a + 1 + s ≡ a + suc s = omega arith in
    rw e (rw e' at (dropped f (a + 1) s n))

back-run : (f g : ℕ → ℕ) (s n len : ℕ) → len ≡ s + n → ((j : ℕ) → s ≤ j → g j ≡ f j) → map g (range_with_len s n) ≡ drop s (map f (range_with_len 0 len))
back-run f g s n len e h =
    let z : 0 + s ≡ s = omega arith in
    rw e (alike g f s s n (λ j lt. h (s + j) (omega arith)) ∙ sym (rw z at (dropped f 0 s n)))

-- where the numbers at paths apart from a path stay, the bytes are the old ones, with those of the part in its range
pub put-overwrites : (f g : List ℕ → ℤ) (p : List ℕ) (l : Layout) (r : Range) → IsTidy l → range_in p l ≡ Some r → ((q : List ℕ) → Apart p q → f q ≡ g q)
    → bytes_with g l ≡ overwritten (bytes_with f l) r.start (bytes_with (λ q. g (p ++ q)) r.layout)
put-overwrites f g p l r h e stay = whole
  where
    at_path : IsPart g (leaves l) p 0 (length_in l) r
    at_path = range-is g p l r h e

    a : ℕ
    a = r.start

    n : ℕ
    n = length_in r.layout

    m : ℕ
    m = length_in l - (a + n)

    fits : length_in l ≡ a + (n + m)
    fits = omega (arith, at_path.inside)

    old : ℕ → ℕ
    old = byte_at f (leaves l)

    new : ℕ → ℕ
    new = byte_at g (leaves l)

    part_bytes : List ℕ
    part_bytes = bytes_with (λ q. g (p ++ q)) r.layout

    front : map new (range_with_len 0 a) ≡ take a (map old (range_with_len 0 (length_in l)))
    front =
        let z : 0 + 0 ≡ 0 = omega arith in
        let t = taken old 0 0 a (length_in l) (omega (arith, at_path.inside)) in
        alike new old 0 0 a (λ j lt. let e : 0 + j ≡ j = omega arith in rw e (sym (same-outside f g p l r j h e' stay (inl lt)))) ∙ sym (rw z at t)
      where
        e' : range_in p l ≡ Some r
        e' = e

    middle : map new (range_with_len (0 + a) n) ≡ part_bytes
    middle =
        alike new (byte_at (λ q. g (p ++ q)) (leaves r.layout)) (0 + a) 0 n (λ j lt.
        let e0 : 0 + a ≡ a = omega arith in let e1 : 0 + j ≡ j = omega arith in rw (e0, e1) (at_path.same_bytes j lt))

    len : length part_bytes ≡ n
    len = length-bytes (λ q. g (p ++ q)) r.layout

    past : ℕ
    past = a + length part_bytes

    back : map new (range_with_len (0 + a + n) m) ≡ drop past (map old (range_with_len 0 (length_in l)))
    back =
        let e : 0 + a + n ≡ past = omega (arith, len) in
        rw e (back-run old new past m (length_in l) (omega (arith, len, at_path.inside)) (λ j le. sym (same-outside f g p l r j h e' stay (inr (omega (arith, len))))))
      where
        e' : range_in p l ≡ Some r
        e' = e

    whole : map new (range_with_len 0 (length_in l)) ≡ take a (map old (range_with_len 0 (length_in l))) ++ (part_bytes ++ drop (a + length part_bytes) (map old (range_with_len 0 (length_in l))))
    whole =
        ap (λ (k : ℕ). map new (range_with_len 0 k)) fits ∙ split new 0 a (n + m) ∙ ap (λ (xs : List ℕ). map new (range_with_len 0 a) ++ xs) (split new (0 + a) n m)
        ∙ cc (front, middle, back)
