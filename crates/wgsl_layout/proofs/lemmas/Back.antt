-- A buffer reads back as its value.
use Rattle.std.proofs.Common.{◌≡◌, ℕ, zero, suc, ◌+◌, ◌-◌, ◌<◌, ◌≤◌, ℤ, List, [], ◌∷◌, ◌++◌, map, Some, option_and_then, Bool, true, cond, refl, sym, ap, ◌∙◌, subst, arith}
use Rattle.std.specs.Prelude.{nat_le, nat_lt, ◌&&◌, slice_index, get_or}
use Rattle.std.specs.List.{range_with_len}
use Rattle.std.proofs.lemmas.Bool.Decides.{nat_tests}
use Rattle.wgsl_rules.specs.Kinds.{bytes_of, InKind}
use Rattle.wgsl_rules.specs.Values.{Val, Vals, no_vals, val, item}
use Rattle.wgsl_rules.specs.Paths.{parts, value_at}
use Rattle.wgsl_rules.specs.Layout.{Layout, scalar, composite, Parts, no_parts, part, length_in, layout_of, Leaf, under, leaves, part_leaves}
use Rattle.wgsl_layout.specs.Buffers.{number_of, number_at, byte_at, byte_of, buffer, Reads}
use Rattle.wgsl_layout.specs.Laws.{AreInOrder}
use Rattle.wgsl_layout.proofs.lemmas.Ranges.{IsTidy, behind, leaves-order, order-bound}
use Rattle.wgsl_layout.proofs.lemmas.Follows.{Follows, FollowAll}
use Rattle.wgsl_layout.proofs.lemmas.Numbers.{number-back}
use Rattle.wgsl_layout.proofs.lemmas.Compose.{number-made}

-- ---- each leaf has a number of its kind

abbrev pub AreInKind : (List ℕ → ℤ) → List Leaf → Type 0
AreInKind f [] = Unit {0}
AreInKind f (l ∷ ls) = InKind l.kind (f l.path) × AreInKind f ls

kinds-under : (f : List ℕ → ℤ) (i o : ℕ) (ls ms : List Leaf) → AreInKind (λ p. f (i ∷ p)) ls → AreInKind f ms → AreInKind f (map (under i o) ls ++ ms)
kinds-under f i o [] ms h k = k
kinds-under f i o (l ∷ ls) ms h k = (h.0, kinds-under f i o ls ms h.1 k)

mutual
  pub leaves-kinds : (l : Layout) (v : Val) (f : List ℕ → ℤ) → Follows l v → ((p : List ℕ) → f p ≡ number_at v p) → AreInKind f (leaves l)
  leaves-kinds (scalar t k) v f h is =
      let z : h.0 ≡ f [] = sym (number-made t k h.0) ∙ ap (λ (x : Val). number_of (Some x)) (sym h.1) ∙ sym (is []) in
      (subst (InKind k) z h.2, tt)
  leaves-kinds (composite t len ps) v f h is = parts-kinds ps (parts v) f 0 h.1 (λ k p. let z : 0 + k ≡ k = omega arith in rw z (is (k ∷ p)))

  parts-kinds : (ps : Parts) (vs : Vals) (f : List ℕ → ℤ) (i : ℕ) → FollowAll ps vs → ((k : ℕ) (p : List ℕ) → f ((i + k) ∷ p) ≡ number_of (option_and_then (value_at p) (item k vs))) → AreInKind f (part_leaves i ps)
  parts-kinds no_parts vs f i h is = tt
  parts-kinds (part o l ps) no_vals f i h is = absurd h
  parts-kinds (part o l ps) (val v vs) f i h is =
      let z : i + 0 ≡ i = omega arith in
      kinds-under f i o (leaves l) (part_leaves (suc i) ps) (leaves-kinds l v (λ p. f (i ∷ p)) h.1 (λ p. rw z at (is 0 p)))
      (parts-kinds ps vs f (suc i) h.2 (λ k p. let next : suc i + k ≡ i + suc k = omega arith in rw next (is (suc k) p)))

-- ---- the bytes at a leaf are those of its number

inside : (o n j : ℕ) → j < n → (nat_le o (o + j) && nat_lt (o + j) (o + n)) ≡ true
inside o n j h = grind (arith, nat_tests)

reads-rest : (f : List ℕ → ℤ) (b : List ℕ) (ls : List Leaf) (a len : ℕ) → ((j : ℕ) → a ≤ j → j < len → slice_index b j ≡ byte_at f ls j) → AreInOrder a ls len → AreInKind f ls → Reads f b ls
reads-rest f b [] a len h o k = tt
reads-rest f b (l ∷ ls) a len h o k =
    let bound = order-bound (l.offset + bytes_of l.kind) len ls o.1 in (
      sym (number-back b l.offset l.kind (f l.path) k.0 (λ j lt.
          h (l.offset + j) (omega (arith, o.0)) (omega arith)
          ∙ ap (λ (c : Bool). cond c (byte_of (f l.path) (l.offset + j - l.offset)) (byte_at f ls (l.offset + j))) (inside l.offset (bytes_of l.kind) j lt)
          ∙ (let e : l.offset + j - l.offset ≡ j = omega arith in ap (byte_of (f l.path)) e))),
      reads-rest f b ls (l.offset + bytes_of l.kind) len (λ j le lt. h j (omega (arith, o.0)) lt
          ∙ ap (λ (c : Bool). cond c (byte_of (f l.path) (j - l.offset)) (byte_at f ls j)) (behind l.offset (bytes_of l.kind) j le)) o.1 k.1,
    )

run-index : (f : ℕ → ℕ) (more : List ℕ) (a n j : ℕ) → j < n → get_or (map f (range_with_len a n) ++ more) j 0 ≡ f (a + j)
run-index f more a zero j h = absurd (omega arith)
run-index f more a (suc n) zero h = let e : a + 0 ≡ a = omega arith in ap f (sym e)
run-index f more a (suc n) (suc j) h = let e : a + 1 + j ≡ a + suc j = omega arith in run-index f more (a + 1) n j (omega arith) ∙ ap f e

-- the bytes of a value that follows a layout give each leaf its number
pub reads-back : (v : Val) (more : List ℕ) → IsTidy (layout_of v) → Follows (layout_of v) v → Reads (number_at v) (buffer v ++ more) (leaves (layout_of v))
reads-back v more t h =
    let l = layout_of v in
    reads-rest (number_at v) (buffer v ++ more) (leaves l) 0 (length_in l) (λ j le lt. let z : 0 + j ≡ j = omega arith in run-index (byte_at (number_at v) (leaves l)) more 0 (length_in l) j lt ∙ ap (byte_at (number_at v) (leaves l)) z)
    (leaves-order l t) (leaves-kinds l v (number_at v) h (λ p. refl))
