-- Paths and bytes compose, and bytes lay out one value at most.
use Rattle.std.proofs.Common.{◌≡◌, ℕ, suc, ◌+◌, ℤ, List, [], ◌∷◌, ◌++◌, map, length, Option, Some, None, option_map, option_and_then, Bool, true, if◌then◌else◌, refl, sym, ap, ◌∙◌, subst, arith}
use mathlib.Core.Path.{fun_ext}
use Rattle.wgsl_rules.specs.Kinds.{Kind}
use Rattle.wgsl_rules.specs.Types.{Ty, atomic}
use Rattle.wgsl_rules.specs.Values.{Val, Vals, no_vals, val, item, type_of}
use Rattle.wgsl_rules.specs.Paths.{parts, value_at}
use Rattle.wgsl_rules.specs.Layout.{has_layout, Layout, scalar, composite, Parts, no_parts, part, length_in, layout, layout_of, runtime_count, count_in, Leaf, under, leaves, part_leaves}
use Rattle.wgsl_layout.specs.Buffers.{number_of, number_at, bytes_with, read_number, Reads, Lays, made_of_number, made_of_parts, decoded, decoded_parts, decode}
use Rattle.wgsl_layout.specs.Laws.{AreInOrder, LeavesAreInOrder, AFixedLayoutHasTheSize, PathsAndBytesCompose}
use Rattle.wgsl_layout.proofs.lemmas.Aligned.{placed}
use Rattle.wgsl_layout.proofs.lemmas.Ranges.{leaves-order, range-is, bytes-of-part, length-bytes}
use Rattle.wgsl_layout.proofs.lemmas.Tidy.{tidy, fixed-sized}
use Rattle.wgsl_layout.proofs.lemmas.Follows.{Follows, FollowAll, follows, path-leads}

pub leaves-in-order : LeavesAreInOrder
leaves-in-order t n h = let is = tidy t n h in subst (λ (to : ℕ). AreInOrder 0 (leaves (layout n t)) to) is.1 (leaves-order (layout n t) is.0)

pub fixed-has-size : AFixedLayoutHasTheSize
fixed-has-size t n h = fixed-sized t n h

-- ---- paths and bytes

pub value-below : (p q : List ℕ) (v : Val) → value_at (p ++ q) v ≡ option_and_then (value_at q) (value_at p v)
value-below [] q v = refl
value-below (i ∷ p) q v = by (item i (parts v)) (λ x. value-below p q x)
  where
    by : (o : Option Val) → ((x : Val) → value_at (p ++ q) x ≡ option_and_then (value_at q) (value_at p x))
        → option_and_then (value_at (p ++ q)) o ≡ option_and_then (value_at q) (option_and_then (value_at p) o)
    by None f = refl
    by (Some x) f = f x

pub numbers-below : (p : List ℕ) (v x : Val) → value_at p v ≡ Some x → (λ q. number_at v (p ++ q)) ≡ number_at x
numbers-below p v x e = fun_ext (λ q. ap number_of (value-below p q v) ∙ ap (λ (o : Option Val). number_of (option_and_then (value_at q) o)) e)

pub compose : PathsAndBytesCompose
compose v x p s h e =
    let l = layout_of v in
    let is = tidy (type_of v) (runtime_count v) h in
    let leads = path-leads p l v x (refl, h) (follows v s h) e in
    let r = leads.range_of in
    let at_path = range-is (number_at v) p l r is.0 leads.there in
    let own_length = length-bytes (number_at x) (layout_of x) in
    let whole_length = length-bytes (number_at v) l in
    let same_length = ap length_in leads.own.0 in (
      leads.own.1,
      record {
        range_of = r;
        there = leads.there;
        its_layout = leads.own.0;
        its_length = same_length ∙ sym own_length;
        inside = omega (arith, at_path.inside, own_length, whole_length, same_length);
        its_bytes = bytes-of-part (number_at v) p l r is.0 leads.there ∙ ap (λ (f : List ℕ → ℤ). bytes_with f r.layout) (numbers-below p v x e) ∙ ap (λ (k : Layout). bytes_with (number_at x) k) leads.own.0;
        its_place = placed (type_of v) (type_of x) (runtime_count v) (runtime_count x) p r h leads.own.1 leads.there leads.own.0;
      },
    )

-- ---- at most one value is laid out

-- each leaf has its number in the bytes, counted from o on
abbrev pub ReadsFrom : (List ℕ → ℤ) → List ℕ → ℕ → List Leaf → Type 0
ReadsFrom f b o [] = Unit {0}
ReadsFrom f b o (l ∷ ls) = (f l.path ≡ read_number b (o + l.offset) l.kind) × ReadsFrom f b o ls

reads-from : (f : List ℕ → ℤ) (b : List ℕ) (ls : List Leaf) → Reads f b ls → ReadsFrom f b 0 ls
reads-from f b [] r = tt
reads-from f b (l ∷ ls) r = let e : 0 + l.offset ≡ l.offset = omega arith in (rw e r.0, reads-from f b ls r.1)

reads-first : (f : List ℕ → ℤ) (b : List ℕ) (o : ℕ) (ls ms : List Leaf) → ReadsFrom f b o (ls ++ ms) → ReadsFrom f b o ls
reads-first f b o [] ms r = tt
reads-first f b o (l ∷ ls) ms r = (r.0, reads-first f b o ls ms r.1)

reads-second : (f : List ℕ → ℤ) (b : List ℕ) (o : ℕ) (ls ms : List Leaf) → ReadsFrom f b o (ls ++ ms) → ReadsFrom f b o ms
reads-second f b o [] ms r = r
reads-second f b o (l ∷ ls) ms r = reads-second f b o ls ms r.1

reads-in : (f : List ℕ → ℤ) (b : List ℕ) (o i k : ℕ) (ls : List Leaf) → ReadsFrom f b o (map (under i k) ls) → ReadsFrom (λ p. f (i ∷ p)) b (o + k) ls
reads-in f b o i k [] r = tt
reads-in f b o i k (l ∷ ls) r = let e : o + (k + l.offset) ≡ o + k + l.offset = omega arith in (rw e at r.0, reads-in f b o i k ls r.1)

pub number-made : (t : Ty) (k : Kind) (z : ℤ) → number_of (Some (made_of_number t k z)) ≡ z
number-made (atomic t) k z = refl
number-made t k z = refl

mutual
  pub decoded-is : (l : Layout) (v : Val) (f : List ℕ → ℤ) (b : List ℕ) (o : ℕ) → Follows l v → ((p : List ℕ) → f p ≡ number_at v p) → ReadsFrom f b o (leaves l) → v ≡ decoded b o l
  decoded-is (scalar t k) v f b o h is r =
      let e : o + 0 ≡ o = omega arith in
      let number : h.0 ≡ read_number b o k = sym (number-made t k h.0) ∙ ap (λ (x : Val). number_of (Some x)) (sym h.1) ∙ sym (is []) ∙ rw e at r.0 in
      h.1 ∙ ap (made_of_number t k) number
  decoded-is (composite t len ps) v f b o h is r = h.0 ∙ ap (made_of_parts t) (parts-are ps (parts v) f b o 0 h.1 (λ k p. let z : 0 + k ≡ k = omega arith in rw z (is (k ∷ p))) r)

  parts-are : (ps : Parts) (vs : Vals) (f : List ℕ → ℤ) (b : List ℕ) (o i : ℕ) → FollowAll ps vs → ((k : ℕ) (p : List ℕ) → f ((i + k) ∷ p) ≡ number_of (option_and_then (value_at p) (item k vs)))
      → ReadsFrom f b o (part_leaves i ps) → vs ≡ decoded_parts b o ps
  parts-are no_parts no_vals f b o i h is r = refl
  parts-are no_parts (val v vs) f b o i h is r = absurd h
  parts-are (part from l ps) no_vals f b o i h is r = absurd h
  parts-are (part from l ps) (val v vs) f b o i h is r =
      let z : i + 0 ≡ i = omega arith in
      let first = decoded-is l v (λ p. f (i ∷ p)) b (o + from) h.1 (λ p. rw z at (is 0 p)) (reads-in f b o i from (leaves l) (reads-first f b o (map (under i from) (leaves l)) (part_leaves (suc i) ps) r)) in
      let rest = parts-are ps vs f b o (suc i) h.2 (λ k p. let next : suc i + k ≡ i + suc k = omega arith in rw next (is (suc k) p)) (reads-second f b o (map (under i from) (leaves l)) (part_leaves (suc i) ps) r) in
      cc (first, rest)

-- what is laid out is what decoding gives
pub laid-decodes : (b : List ℕ) (t : Ty) (v : Val) → Lays b t v → decode b t ≡ Some v
laid-decodes b t v h =
    let own : has_layout (type_of v) ≡ true = ap has_layout h.typed ∙ h.layout in
    let is = decoded-is (layout_of v) v (number_at v) b 0 (follows v h.storable own) (λ p. refl) (reads-from (number_at v) b (leaves (layout_of v)) h.reads) in
    ap (λ (c : Bool). if c then option_map (λ n. decoded b 0 (layout n t)) (count_in (length b) t) else None) h.layout
    ∙ ap (λ (o : Option ℕ). option_map (λ n. decoded b 0 (layout n t)) o) h.counted
    ∙ ap (λ (u : Ty). Some (decoded b 0 (layout (runtime_count v) u))) (sym h.typed)
    ∙ ap Some (sym is)

pub laid-once : (b : List ℕ) (t : Ty) (v w : Val) → Lays b t v → Lays b t w → w ≡ v
laid-once b t v w h k = let e = laid-decodes b t v h in let f = laid-decodes b t w k in cc (e, f)
