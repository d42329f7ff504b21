-- A bitcast to a type of the same size and back gives the value again.
use Rattle.std.proofs.Common.{◌≡◌, ◌∙◌, ℕ, zero, suc, ◌+◌, ◌<◌, ◌≤◌, List, [], ◌∷◌, map, length, get_or, ℤ, Bool, true, false, if◌then◌else◌, Option, Some, option_map, IsTrue, Ok, arith, refl, sym, ap, ap₂, subst}
use Rattle.std.proofs.lemmas.List.{same_lists, get_or_default}
use Rattle.std.proofs.lemmas.List.FromFn.{get_or-map-range_with_len, length-map-range_with_len}
use Rattle.std.specs.List.{range_with_len}
use Rattle.std.specs.Prelude.{slice_index}
use Rattle.wgsl_value_ops.specs.Lift.{lifted, vector_of}
use Rattle.wgsl_rules.specs.Kinds as kinds
use Rattle.wgsl_rules.specs.Layout.{HasLayout, has_fixed_layout, has_runtime_layout, is_from_2_to_4, size, length_with, count_in, runtime_count, Layout, layout, layout_of, Leaf, leaves}
use Rattle.wgsl_rules.specs.Refusals.{Outcome, and_then, builtin}
use Rattle.wgsl_rules.specs.Types as types
use Rattle.wgsl_rules.specs.Types.{Ty}
use Rattle.wgsl_rules.specs.Values.{Val, truth, number, record_of, array_of, vector, matrix, atomic_of, pointer, reference, deferred, Vals, no_vals, val, count, first_type, matrix_type, type_of, AllOfType, AreLiterals, IsLiteral, IsStorable}
use Rattle.wgsl_rules.proofs.lemmas.Known.{and-both}
use Rattle.wgsl_rules.proofs.lemmas.Tests.{at-least-2, at-most-4}
use Rattle.wgsl_scalar.specs.Operands.{ok_or}
use Rattle.wgsl_layout.proofs.lemmas.Compose.{laid-decodes}
use Rattle.wgsl_layout.proofs.lemmas.Counts.{count-fixed}
use Rattle.wgsl_layout.proofs.lemmas.Decoded.{decoding-is-reading}
use Rattle.wgsl_layout.proofs.lemmas.Padding.{has-the-bytes}
use Rattle.wgsl_layout.proofs.lemmas.Roundtrip.{length-buffer, lays-itself}
use Rattle.wgsl_layout.proofs.lemmas.Tidy.{fixed-length}
use Rattle.wgsl_layout.specs.Buffers.{covers, byte_of, byte_at, number_at, buffer, decode, decoded, without_padding, Lays, IsReadOf}
use Rattle.wgsl_layout.specs.Laws.{AreBytes}
use Rattle.wgsl_value_builtins.proofs.Bytes.{cast_read}
use Rattle.wgsl_value_builtins.proofs.PackedBytes.{byte_of-lt}
use Rattle.wgsl_value_builtins.specs.Bitcast.{IsBitcastTarget, is_word_type, taken_as, with_bytes_of, bitcast}
use Rattle.wgsl_value_builtins.specs.Laws.{BitcastsUndoEachOther}
use Rattle.wgsl_value_builtins.specs.Lifts.{on_components}

-- ---- what is taken as it is

word-taken : (u : Ty) (v : Val) → IsLiteral v → IsTrue (is_word_type (type_of v)) → taken_as u v ≡ Ok v
word-taken u (number kinds.i32 z) l w = refl
word-taken u (number kinds.u32 z) l w = refl
word-taken u (number kinds.abstract_int z) l w = absurd (cc)
word-taken u (number kinds.i64 z) l w = absurd (cc)
word-taken u (number kinds.u64 z) l w = absurd (cc)
word-taken u (truth b) l w = absurd (cc)
word-taken u v l w = absurd l

words-taken : (u s : Ty) (vs : Vals) → AreLiterals vs → AllOfType s vs → IsTrue (is_word_type s) → lifted (taken_as u) vs ≡ Ok vs
words-taken u s no_vals l a w = refl
words-taken u s (val v vs) l a w =
    rw (word-taken u v l.0 (ap is_word_type a.0 ∙ w), words-taken u s vs l.1 a.1 w) refl

no-matrix : (n : ℕ) (s : Ty) → IsBitcastTarget (matrix_type n s) → ⊥
no-matrix n (types.vec r s) t = absurd (cc)
no-matrix n s t = absurd (cc)

own-taken : (u : Ty) (v : Val) → IsStorable v → IsBitcastTarget (type_of v) → on_components (taken_as u) v ≡ Ok v
own-taken u (number kinds.i32 z) h t = refl
own-taken u (number kinds.u32 z) h t = refl
own-taken u (vector vs) h t = ap vector_of (words-taken u (first_type vs) vs h.2 h.3 (and-both (is_from_2_to_4 (count vs)) (is_word_type (first_type vs)) t).1)
own-taken u (number kinds.abstract_int z) h t = absurd (cc)
own-taken u (number kinds.i64 z) h t = absurd (cc)
own-taken u (number kinds.u64 z) h t = absurd (cc)
own-taken u (truth b) h t = absurd (cc)
own-taken u (record_of (types.struct n fs) vs) h t = absurd (cc)
own-taken u (record_of s vs) h t = absurd (h.0)
own-taken u (array_of true vs) h t = absurd (cc)
own-taken u (array_of false vs) h t = absurd (cc)
own-taken u (matrix vs) h t = absurd (no-matrix (count vs) (first_type vs) t)
own-taken u (atomic_of v) h t = absurd (cc)
own-taken u (pointer r) h t = absurd (cc)
own-taken u (reference r) h t = absurd (cc)
own-taken u (deferred s) h t = absurd h

-- ---- bytes of the templates

-- bytes of the size are one value of the type, and all of them count
record IsWhole (t : Ty) : Type 0 where
  read : (b : List ℕ) → length b ≡ size t → decode b t ≡ Some (decoded b 0 (layout 0 t))
  unpadded : (b : List ℕ) → without_padding b (layout 0 t) ≡ map (λ j. slice_index b j) (range_with_len 0 (size t))
  laid : has_fixed_layout t ≡ true

whole_i32 : IsWhole types.i32
whole_i32 = record {
  read = λ b e. ap (λ (n : ℕ). option_map (λ m. decoded b 0 (layout m types.i32)) (count_in n types.i32)) e;
  unpadded = λ b. refl;
  laid = refl;
}

whole_u32 : IsWhole types.u32
whole_u32 = record {
  read = λ b e. ap (λ (n : ℕ). option_map (λ m. decoded b 0 (layout m types.u32)) (count_in n types.u32)) e;
  unpadded = λ b. refl;
  laid = refl;
}

whole_2_i32 : IsWhole (types.vec 2 types.i32)
whole_2_i32 = record {
  read = λ b e. ap (λ (n : ℕ). option_map (λ m. decoded b 0 (layout m (types.vec 2 types.i32))) (count_in n (types.vec 2 types.i32))) e;
  unpadded = λ b. refl;
  laid = refl;
}

whole_2_u32 : IsWhole (types.vec 2 types.u32)
whole_2_u32 = record {
  read = λ b e. ap (λ (n : ℕ). option_map (λ m. decoded b 0 (layout m (types.vec 2 types.u32))) (count_in n (types.vec 2 types.u32))) e;
  unpadded = λ b. refl;
  laid = refl;
}

whole_3_i32 : IsWhole (types.vec 3 types.i32)
whole_3_i32 = record {
  read = λ b e. ap (λ (n : ℕ). option_map (λ m. decoded b 0 (layout m (types.vec 3 types.i32))) (count_in n (types.vec 3 types.i32))) e;
  unpadded = λ b. refl;
  laid = refl;
}

whole_3_u32 : IsWhole (types.vec 3 types.u32)
whole_3_u32 = record {
  read = λ b e. ap (λ (n : ℕ). option_map (λ m. decoded b 0 (layout m (types.vec 3 types.u32))) (count_in n (types.vec 3 types.u32))) e;
  unpadded = λ b. refl;
  laid = refl;
}

whole_4_i32 : IsWhole (types.vec 4 types.i32)
whole_4_i32 = record {
  read = λ b e. ap (λ (n : ℕ). option_map (λ m. decoded b 0 (layout m (types.vec 4 types.i32))) (count_in n (types.vec 4 types.i32))) e;
  unpadded = λ b. refl;
  laid = refl;
}

whole_4_u32 : IsWhole (types.vec 4 types.u32)
whole_4_u32 = record {
  read = λ b e. ap (λ (n : ℕ). option_map (λ m. decoded b 0 (layout m (types.vec 4 types.u32))) (count_in n (types.vec 4 types.u32))) e;
  unpadded = λ b. refl;
  laid = refl;
}

whole_2 : (u : Ty) → IsTrue (is_word_type u) → IsWhole (types.vec 2 u)
whole_2 types.i32 w = whole_2_i32
whole_2 types.u32 w = whole_2_u32
whole_2 u w = absurd (cc)

whole_3 : (u : Ty) → IsTrue (is_word_type u) → IsWhole (types.vec 3 u)
whole_3 types.i32 w = whole_3_i32
whole_3 types.u32 w = whole_3_u32
whole_3 u w = absurd (cc)

whole_4 : (u : Ty) → IsTrue (is_word_type u) → IsWhole (types.vec 4 u)
whole_4 types.i32 w = whole_4_i32
whole_4 types.u32 w = whole_4_u32
whole_4 u w = absurd (cc)

whole_vec : (n : ℕ) (u : Ty) → 2 ≤ n → n ≤ 4 → IsTrue (is_word_type u) → IsWhole (types.vec n u)
whole_vec zero u l g w = absurd (omega arith)
whole_vec (suc zero) u l g w = absurd (omega arith)
whole_vec (suc (suc zero)) u l g w = whole_2 u w
whole_vec (suc (suc (suc zero))) u l g w = whole_3 u w
whole_vec (suc (suc (suc (suc zero)))) u l g w = whole_4 u w
whole_vec (suc (suc (suc (suc (suc n))))) u l g w = absurd (omega arith)

whole : (t : Ty) → IsBitcastTarget t → IsWhole t
whole types.i32 h = whole_i32
whole types.u32 h = whole_u32
whole (types.vec n u) h = let b = and-both (is_from_2_to_4 n) (is_word_type u) h in whole_vec n u (at-least-2 n b.0) (at-most-4 n b.0) b.1
whole t h = absurd (cc)

fixed-laid : (t : Ty) → has_fixed_layout t ≡ true → HasLayout t
fixed-laid t h = rw h refl

listing : (b : List ℕ) (n : ℕ) → length b ≡ n → map (λ j. slice_index b j) (range_with_len 0 n) ≡ b
listing b n e =
    let len = length-map-range_with_len (λ j. slice_index b j) 0 n in
    same_lists _ _ (len ∙ sym e) (λ k d h. get_or-map-range_with_len (λ j. slice_index b j) 0 n k k d (omega (arith, len, h)) (omega arith) ∙ get_or_default b k 0 d (omega (arith, len, h, e)))

-- ---- buffers hold bytes

one-lt : (b : Bool) (m n : ℕ) → m < 256 → n < 256 → (if b then m else n) < 256
one-lt true m n h k = h
one-lt false m n h k = k

byte_at-lt : (f : List ℕ → ℤ) (ls : List Leaf) (j : ℕ) → byte_at f ls j < 256
byte_at-lt f [] j = omega arith
byte_at-lt f (l ∷ ls) j = one-lt (covers l j) _ _ (byte_of-lt (f l.path) _) (byte_at-lt f ls j)

all-bytes : (f : ℕ → ℕ) (js : List ℕ) → ((j : ℕ) → f j < 256) → AreBytes (map f js)
all-bytes f [] h = tt
all-bytes f (j ∷ js) h = (h j, all-bytes f js h)

-- ---- there and back

cast-own : (v : Val) (t : Ty) (o : Option Val) → IsStorable v → IsBitcastTarget (type_of v) → length (buffer v) ≡ size t → IsReadOf (buffer v) t o → bitcast t v ≡ ok_or builtin o
cast-own v t o h own len read = ap (λ (p : Outcome Val). and_then p (λ w. with_bytes_of w t)) (own-taken _ v h own) ∙ cast_read v t o len read

its-length : (v : Val) → IsStorable v → has_fixed_layout (type_of v) ≡ true → length (buffer v) ≡ size (type_of v)
its-length v h l = length-buffer v (fixed-laid (type_of v) l) ∙ ap (length_with (runtime_count v) (size (type_of v))) (fixed-length (type_of v) 0 l)

-- what is read has all of the bytes
same-bytes : (b : List ℕ) (t : Ty) (w : Val) → IsWhole t → AreBytes b → length b ≡ size t → decode b t ≡ Some w → Lays b t w → buffer w ≡ b
same-bytes b t w q bytes len dec lays =
    let none = count-fixed w lays.storable (ap has_fixed_layout lays.typed ∙ q.laid) in
    has-the-bytes b t w bytes dec ∙ ap (without_padding b) (ap₂ layout none lays.typed) ∙ q.unpadded b ∙ listing b (size t) len

pub casts-undo : BitcastsUndoEachOther
casts-undo v t h own target sizes =
    let p = whole (type_of v) own in
    let q = whole t target in
    let w = decoded (buffer v) 0 (layout 0 t) in
    let len = its-length v h p.laid in
    let dec = q.read (buffer v) (len ∙ sym sizes) in
    let read = subst (IsReadOf (buffer v) t) dec (decoding-is-reading (buffer v) t) in
    let lays : Lays (buffer v) t w = read.0 in
    let same : buffer w ≡ buffer v = same-bytes (buffer v) t w q (all-bytes (byte_at (number_at v) (leaves (layout_of v))) _ (byte_at-lt (number_at v) (leaves (layout_of v)))) (len ∙ sym sizes) dec lays in
    let back = subst (IsReadOf (buffer v) (type_of v)) (laid-decodes (buffer v) (type_of v) v (lays-itself v h (fixed-laid (type_of v) p.laid))) (decoding-is-reading (buffer v) (type_of v)) in
    ap (λ (o : Outcome Val). and_then o (bitcast (type_of v))) (cast-own v t (Some w) h own (len ∙ sym sizes) read)
    ∙ cast-own w (type_of v) (Some v) lays.storable (subst IsBitcastTarget (sym lays.typed) target) (ap length same ∙ len) (subst (λ (b : List ℕ). IsReadOf b (type_of v) (Some v)) (sym same) back)
