-- What writing the leaves of a layout, one after another, makes of the bytes.
use Rattle.std.proofs.Common.{◌≡◌, ℕ, ◌+◌, ◌-◌, ◌<◌, ◌≤◌, ℤ, List, [], ◌∷◌, ◌++◌, map, length, take, drop, Bool, true, false, refl, sym, ap, ◌∙◌, subst, arith, length-append, length-drop, get_or-take, get_or-drop}
use Rattle.std.proofs.lemmas.Bool.Decides.{nat_tests}
use Rattle.std.proofs.lemmas.List.{length-take-le, get_or-append_right}
use Rattle.std.proofs.lemmas.List.FromFn.{get_or-map-range_with_len, length-map-range_with_len}
use Rattle.std.proofs.lemmas.Grind.{same_number_lists}
use Rattle.std.proofs.Math.ListN.{get_or-append}
use Rattle.std.specs.Prelude.{slice_index, nat_le, nat_lt, ◌&&◌, ◌||◌, if◌then◌else◌}
use native.Mathlib.Decide.{dec_lt}
use mathlib.Core.Logic.{inl, inr, ◌⊎◌}
use Rattle.wgsl_rules.specs.Kinds.{Kind, bytes_of}
use Rattle.wgsl_rules.specs.Layout.{Layout, length_in, Leaf, under, leaves}
use Rattle.wgsl_rules.proofs.lemmas.Tests.{inside}
use Rattle.wgsl_layout.specs.Buffers.{covers, byte_of, byte_at, bytes_with, is_covered}
use Rattle.wgsl_layout.specs.Ranges.{overwritten}
use Rattle.wgsl_layout.specs.Laws.{AreInOrder}
use Rattle.wgsl_layout.proofs.lemmas.Ranges.{IsTidy, before, behind, leaves-order, order-bound}
use Rattle.wgsl_layout.specs.Walk.{number_bytes, written_leaves}

-- ---- lists of leaves

pub leaves-append : (f : List ℕ → ℤ) (ls ms : List Leaf) (o : ℕ) (b : List ℕ) → written_leaves f (ls ++ ms) o b ≡ written_leaves f ms o (written_leaves f ls o b)
leaves-append f [] ms o b = refl
leaves-append f (l ∷ ls) ms o b = leaves-append f ls ms o (overwritten b (o + l.offset) (number_bytes l.kind (f l.path)))

pub leaves-under : (f : List ℕ → ℤ) (i from : ℕ) (ls : List Leaf) (o : ℕ) (b : List ℕ) → written_leaves f (map (under i from) ls) o b ≡ written_leaves (λ p. f (i ∷ p)) ls (o + from) b
leaves-under f i from [] o b = refl
leaves-under f i from (l ∷ ls) o b =
    let e : o + (from + l.offset) ≡ o + from + l.offset = omega arith in
    ap (λ (n : ℕ). written_leaves f (map (under i from) ls) o (overwritten b n (number_bytes l.kind (f (i ∷ l.path))))) e
    ∙ leaves-under f i from ls o (overwritten b (o + from + l.offset) (number_bytes l.kind (f (i ∷ l.path))))

-- ---- one overwrite

pub over-length : (b c : List ℕ) (a : ℕ) → a + length c ≤ length b → length (overwritten b a c) ≡ length b
over-length b c a h =
    let front = length-append (take a b) (c ++ drop (a + length c) b) in
    let back = length-append c (drop (a + length c) b) in
    let taken : length (take a b) ≡ a = length-take-le a b (omega arith) in
    let dropped = length-drop (a + length c) b in
    omega (arith, front, back, taken, dropped)

pub over-before : (b c : List ℕ) (a j : ℕ) → a + length c ≤ length b → j < a → slice_index (overwritten b a c) j ≡ slice_index b j
over-before b c a j h lt =
    let taken : length (take a b) ≡ a = length-take-le a b (omega arith) in
    get_or-append (take a b) (c ++ drop (a + length c) b) 0 j (omega arith) ∙ get_or-take a b j 0 lt

pub over-inside : (b c : List ℕ) (a j k : ℕ) → a + length c ≤ length b → j ≡ a + k → k < length c → slice_index (overwritten b a c) j ≡ slice_index c k
over-inside b c a j k h e lt =
    let taken : length (take a b) ≡ a = length-take-le a b (omega arith) in
    let at : j - a ≡ k = omega arith in
    get_or-append_right (take a b) (c ++ drop (a + length c) b) a j 0 taken (omega arith)
    ∙ ap (λ (n : ℕ). slice_index (c ++ drop (a + length c) b) n) at ∙ get_or-append c (drop (a + length c) b) 0 k lt

pub over-behind : (b c : List ℕ) (a j : ℕ) → a + length c ≤ length b → a + length c ≤ j → slice_index (overwritten b a c) j ≡ slice_index b j
over-behind b c a j h le =
    let taken : length (take a b) ≡ a = length-take-le a b (omega arith) in
    let at : a + length c + (j - a - length c) ≡ j = omega arith in
    get_or-append_right (take a b) (c ++ drop (a + length c) b) a j 0 taken (omega arith)
    ∙ get_or-append_right c (drop (a + length c) b) (length c) (j - a) 0 refl (omega arith)
    ∙ get_or-drop (a + length c) b (j - a - length c) 0 ∙ ap (λ (n : ℕ). slice_index b n) at

-- ---- leaves in order

bytes-length : (k : Kind) (z : ℤ) → length (number_bytes k z) ≡ bytes_of k
bytes-length k z = length-map-range_with_len (byte_of z) 0 (bytes_of k)

outside : (o n j : ℕ) → (nat_le o j && nat_lt j (o + n)) ≡ false → (j < o) ⊎ (o + n ≤ j)
outside o n j h = by (dec_lt j o)
  where
    by : Dec (j < o) → (j < o) ⊎ (o + n ≤ j)
    by (yes lt) = inl lt
    by (no ge) = inr (grind (arith, nat_tests))

-- leaves that begin behind j do not cover it
uncovered : (ls : List Leaf) (a to j : ℕ) → AreInOrder a ls to → j < a → is_covered ls j ≡ false
uncovered [] a to j h lt = refl
uncovered (l ∷ ls) a to j h lt = ap (λ (c : Bool). c || is_covered ls j) (before l.offset (bytes_of l.kind) j (omega (arith, h.0))) ∙ uncovered ls (l.offset + bytes_of l.kind) to j h.1 (omega (arith, h.0))

pub leaves-length : (f : List ℕ → ℤ) (ls : List Leaf) (a to o : ℕ) (b : List ℕ) → AreInOrder a ls to → o + to ≤ length b → length (written_leaves f ls o b) ≡ length b
leaves-length f [] a to o b h le = refl
leaves-length f (l ∷ ls) a to o b h le =
    let c = number_bytes l.kind (f l.path) in
    let few = bytes-length l.kind (f l.path) in
    let rest = order-bound (l.offset + bytes_of l.kind) to ls h.1 in
    let one = over-length b c (o + l.offset) (omega (arith, few)) in
    leaves-length f ls (l.offset + bytes_of l.kind) to o (overwritten b (o + l.offset) c) h.1 (omega (arith, one)) ∙ one

-- one leaf, and those behind it
leaf-byte : (f : List ℕ → ℤ) (l : Leaf) (ls : List Leaf) (to o : ℕ) (b : List ℕ) (j : ℕ) (t : Bool) → AreInOrder (l.offset + bytes_of l.kind) ls to → o + l.offset + bytes_of l.kind ≤ length b → covers l j ≡ t
    → (if is_covered ls j then byte_at f ls j else slice_index (overwritten b (o + l.offset) (number_bytes l.kind (f l.path))) (o + j))
    ≡ (if t || is_covered ls j then (if t then byte_of (f l.path) (j - l.offset) else byte_at f ls j) else slice_index b (o + j))
leaf-byte f l ls to o b j true h le e =
    let i = inside l.offset (bytes_of l.kind) j e in
    let few = bytes-length l.kind (f l.path) in
    let none = uncovered ls (l.offset + bytes_of l.kind) to j h i.1 in
    let here : o + j ≡ o + l.offset + (j - l.offset) = omega (arith, i.0) in
    let z : 0 + (j - l.offset) ≡ j - l.offset = omega arith in
    ap (λ (t : Bool). if t then byte_at f ls j else slice_index (overwritten b (o + l.offset) (number_bytes l.kind (f l.path))) (o + j)) none
    ∙ over-inside b (number_bytes l.kind (f l.path)) (o + l.offset) (o + j) (j - l.offset) (omega (arith, few)) here (omega (arith, few, i.0, i.1))
    ∙ get_or-map-range_with_len (byte_of (f l.path)) 0 (bytes_of l.kind) (j - l.offset) (j - l.offset) 0 (omega (arith, i.0, i.1)) z
leaf-byte f l ls to o b j false h le e =
    let few = bytes-length l.kind (f l.path) in
    let kept : slice_index (overwritten b (o + l.offset) (number_bytes l.kind (f l.path))) (o + j) ≡ slice_index b (o + j) =
    elim (outside l.offset (bytes_of l.kind) j e) [
      | inl lt ↦ over-before b (number_bytes l.kind (f l.path)) (o + l.offset) (o + j) (omega (arith, few)) (omega arith)
      | inr ge ↦ over-behind b (number_bytes l.kind (f l.path)) (o + l.offset) (o + j) (omega (arith, few)) (omega (arith, few))
    ] in
    ap (λ (n : ℕ). if is_covered ls j then byte_at f ls j else n) kept

-- a byte that a leaf covers is one of its number; any other stays
pub leaves-byte : (f : List ℕ → ℤ) (ls : List Leaf) (a to o : ℕ) (b : List ℕ) (j : ℕ) → AreInOrder a ls to → o + to ≤ length b
    → slice_index (written_leaves f ls o b) (o + j) ≡ (if is_covered ls j then byte_at f ls j else slice_index b (o + j))
leaves-byte f [] a to o b j h le = refl
leaves-byte f (l ∷ ls) a to o b j h le =
    let few = bytes-length l.kind (f l.path) in
    let rest = order-bound (l.offset + bytes_of l.kind) to ls h.1 in
    let one = over-length b (number_bytes l.kind (f l.path)) (o + l.offset) (omega (arith, few)) in
    leaves-byte f ls (l.offset + bytes_of l.kind) to o (overwritten b (o + l.offset) (number_bytes l.kind (f l.path))) j h.1 (omega (arith, one))
    ∙ leaf-byte f l ls to o b j (covers l j) h.1 (omega (arith, rest)) refl

-- and so does each byte in front
pub leaves-before : (f : List ℕ → ℤ) (ls : List Leaf) (a to o : ℕ) (b : List ℕ) (j : ℕ) → AreInOrder a ls to → o + to ≤ length b → j < o → slice_index (written_leaves f ls o b) j ≡ slice_index b j
leaves-before f [] a to o b j h le lt = refl
leaves-before f (l ∷ ls) a to o b j h le lt =
    let few = bytes-length l.kind (f l.path) in
    let rest = order-bound (l.offset + bytes_of l.kind) to ls h.1 in
    let one = over-length b (number_bytes l.kind (f l.path)) (o + l.offset) (omega (arith, few)) in
    leaves-before f ls (l.offset + bytes_of l.kind) to o (overwritten b (o + l.offset) (number_bytes l.kind (f l.path))) j h.1 (omega (arith, one)) lt
    ∙ over-before b (number_bytes l.kind (f l.path)) (o + l.offset) j (omega (arith, few)) (omega arith)

-- what no leaf covers is 0 in the bytes of a layout
nothing : (f : List ℕ → ℤ) (ls : List Leaf) (j : ℕ) → (if is_covered ls j then byte_at f ls j else 0) ≡ byte_at f ls j
nothing f [] j = refl
nothing f (l ∷ ls) j = by (covers l j) (nothing f ls j)
  where
    by : (t : Bool) → (if is_covered ls j then byte_at f ls j else 0) ≡ byte_at f ls j
        → (if t || is_covered ls j then (if t then byte_of (f l.path) (j - l.offset) else byte_at f ls j) else 0) ≡ (if t then byte_of (f l.path) (j - l.offset) else byte_at f ls j)
    by true h = refl
    by false h = h

-- nor past the end
past : (f : List ℕ → ℤ) (ls : List Leaf) (a to j : ℕ) → AreInOrder a ls to → to ≤ j → is_covered ls j ≡ false
past f [] a to j h le = refl
past f (l ∷ ls) a to j h le =
    let rest = order-bound (l.offset + bytes_of l.kind) to ls h.1 in
    ap (λ (c : Bool). c || is_covered ls j) (behind l.offset (bytes_of l.kind) j (omega arith)) ∙ past f ls (l.offset + bytes_of l.kind) to j h.1 le

-- ---- a layout in bytes of which the padding is zeroed

-- the bytes from o on, so many, are 0
pub record AreZero (b : List ℕ) (o n : ℕ) : Type 0 where
  pub zeros : (j : ℕ) → j < n → slice_index b (o + j) ≡ 0

-- the bytes are 0 that are padding where the layout begins at o
pub record IsPaddingZero (b : List ℕ) (o : ℕ) (l : Layout) : Type 0 where
  pub zeros : (j : ℕ) → j < length_in l → is_covered (leaves l) j ≡ false → slice_index b (o + j) ≡ 0

pub layout-bytes-over : (f : List ℕ → ℤ) (l : Layout) (o : ℕ) (b : List ℕ) → IsTidy l → o + length_in l ≤ length b → IsPaddingZero b o l
    → written_leaves f (leaves l) o b ≡ overwritten b o (bytes_with f l)
layout-bytes-over f l o b t le z =
    same_number_lists (written_leaves f (leaves l) o b) (overwritten b o (bytes_with f l)) (long ∙ sym over) (λ k lt. by k (dec_lt k o) (dec_lt k (o + length_in l)))
  where
    order : AreInOrder 0 (leaves l) (length_in l)
    order = leaves-order l t

    long : length (written_leaves f (leaves l) o b) ≡ length b
    long = leaves-length f (leaves l) 0 (length_in l) o b order le

    whole : length (bytes_with f l) ≡ length_in l
    whole = length-map-range_with_len (byte_at f (leaves l)) 0 (length_in l)

    over : length (overwritten b o (bytes_with f l)) ≡ length b
    over = over-length b (bytes_with f l) o (omega (arith, whole))

    at : (k j : ℕ) → k ≡ o + j → slice_index (written_leaves f (leaves l) o b) k ≡ (if is_covered (leaves l) j then byte_at f (leaves l) j else slice_index b k)
    at k j e = subst (λ (n : ℕ). slice_index (written_leaves f (leaves l) o b) n ≡ (if is_covered (leaves l) j then byte_at f (leaves l) j else slice_index b n)) (sym e) (leaves-byte f (leaves l) 0 (length_in l) o b j order le)

    -- a byte that no leaf covers is 0 in both
    padded : (k j : ℕ) → k ≡ o + j → j < length_in l → (c : Bool) → is_covered (leaves l) j ≡ c → (if c then byte_at f (leaves l) j else slice_index b k) ≡ byte_at f (leaves l) j
    padded k j e lt true is = refl
    padded k j e lt false is = ap (slice_index b) e ∙ z.zeros j lt is ∙ ap (λ (c : Bool). if c then byte_at f (leaves l) j else 0) (sym is) ∙ nothing f (leaves l) j

    by : (k : ℕ) → Dec (k < o) → Dec (k < o + length_in l) → slice_index (written_leaves f (leaves l) o b) k ≡ slice_index (overwritten b o (bytes_with f l)) k
    by k (yes lt) d =
        leaves-before f (leaves l) 0 (length_in l) o b k order le lt ∙ sym (over-before b (bytes_with f l) o k (omega (arith, whole)) lt)
    by k (no ge) (yes lt) =
        let j : k ≡ o + (k - o) = omega arith in
        let e : 0 + (k - o) ≡ k - o = omega arith in
        at k (k - o) j ∙ padded k (k - o) j (omega arith) (is_covered (leaves l) (k - o)) refl
        ∙ sym (over-inside b (bytes_with f l) o k (k - o) (omega (arith, whole)) j (omega (arith, whole))
        ∙ get_or-map-range_with_len (byte_at f (leaves l)) 0 (length_in l) (k - o) (k - o) 0 (omega arith) e)
    by k (no ge) (no far) =
        let j : k ≡ o + (k - o) = omega arith in
        at k (k - o) j ∙ ap (λ (t : Bool). if t then byte_at f (leaves l) (k - o) else slice_index b k) (past f (leaves l) 0 (length_in l) (k - o) order (omega arith))
        ∙ sym (over-behind b (bytes_with f l) o k (omega (arith, whole)) (omega (arith, whole)))

-- in bytes of which the whole range is zeroed
pub layout-bytes : (f : List ℕ → ℤ) (l : Layout) (o : ℕ) (b : List ℕ) → IsTidy l → o + length_in l ≤ length b → AreZero b o (length_in l)
    → written_leaves f (leaves l) o b ≡ overwritten b o (bytes_with f l)
layout-bytes f l o b t le z = layout-bytes-over f l o b t le (record { zeros = λ j lt is. z.zeros j lt })

-- padding has the byte 0 in the bytes of a layout
pub padding-byte : (f : List ℕ → ℤ) (ls : List Leaf) (j : ℕ) → is_covered ls j ≡ false → byte_at f ls j ≡ 0
padding-byte f ls j is = sym (ap (λ (c : Bool). if c then byte_at f ls j else 0) (sym is) ∙ nothing f ls j)

-- what is overwritten again, as long, is overwritten once
pub over-again : (b c z : List ℕ) (a : ℕ) → length z ≡ length c → a + length c ≤ length b → overwritten (overwritten b a z) a c ≡ overwritten b a c
over-again b c z a e le =
    same_number_lists (overwritten (overwritten b a z) a c) (overwritten b a c) (twice ∙ sym once) (λ k lt. by k (dec_lt k a) (dec_lt k (a + length c)))
  where
    first : length (overwritten b a z) ≡ length b
    first = over-length b z a (omega (arith, e))

    twice : length (overwritten (overwritten b a z) a c) ≡ length b
    twice = over-length (overwritten b a z) c a (omega (arith, first)) ∙ first

    once : length (overwritten b a c) ≡ length b
    once = over-length b c a le

    by : (k : ℕ) → Dec (k < a) → Dec (k < a + length c) → slice_index (overwritten (overwritten b a z) a c) k ≡ slice_index (overwritten b a c) k
    by k (yes lt) d = over-before (overwritten b a z) c a k (omega (arith, first)) lt ∙ over-before b z a k (omega (arith, e)) lt ∙ sym (over-before b c a k le lt)
    by k (no ge) (yes lt) =
        over-inside (overwritten b a z) c a k (k - a) (omega (arith, first)) (omega arith) (omega arith) ∙ sym (over-inside b c a k (k - a) le (omega arith) (omega arith))
    by k (no ge) (no far) = over-behind (overwritten b a z) c a k (omega (arith, first)) (omega arith) ∙ over-behind b z a k (omega (arith, e)) (omega (arith, e)) ∙ sym (over-behind b c a k le (omega arith))
