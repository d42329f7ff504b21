-- The buffer of what is read is the bytes with padding zeroed.
use Rattle.std.proofs.Common.{◌≡◌, ◌⊎◌, ℕ, zero, suc, ◌+◌, ◌-◌, ◌/◌, ◌%◌, ◌^◌, ◌<◌, ℤ, pos, negsuc, List, [], ◌∷◌, Bool, true, false, if◌then◌else◌, refl, sym, ap, ◌∙◌, subst, arith}
use Rattle.std.specs.Prelude.{nat_lt, ◌||◌, slice_index}
use mathlib.Core.Logic.{inl, inr}
use Rattle.std.proofs.lemmas.Bool.Decides.{nat_tests}
use Rattle.std.proofs.lemmas.Int.{ints}
use native.Mathlib.Nat.{pow-suc}
use Rattle.wgsl_rules.specs.Kinds as kinds
use Rattle.wgsl_rules.specs.Kinds.{Kind, bytes_of, wrap}
use Rattle.wgsl_rules.specs.Layout.{Leaf, leaves, layout_of, length_in}
use Rattle.wgsl_rules.proofs.lemmas.Tests.{inside}
use Rattle.wgsl_layout.specs.Buffers.{covers, byte_of, byte_at, number_at, number_from, read_number, Reads, IsReadOf, is_covered}
use Rattle.wgsl_layout.specs.Laws.{AreBytes, AReadValueHasTheBytes}
use Rattle.wgsl_layout.proofs.lemmas.Numbers.{next-byte}
use Rattle.wgsl_layout.proofs.lemmas.Ranges.{alike}
use Rattle.wgsl_layout.proofs.lemmas.Decoded.{decoding-is-reading}

-- ---- the bytes of a number that was read

byte-small : (b : List ℕ) (i : ℕ) → AreBytes b → slice_index b i < 256
byte-small [] i h = omega arith
byte-small (x ∷ xs) zero h = h.0
byte-small (x ∷ xs) (suc i) h = byte-small xs i h.1

number-small : (b : List ℕ) (n o : ℕ) → AreBytes b → number_from b o n < 256 ^ n
number-small b zero o h = omega arith
number-small b (suc n) o h =
    let rest = number-small b n (o + 1) h in
    let low = byte-small b o h in
    let e = pow-suc 256 n in
    omega arith

digit : (b : List ℕ) (n o j : ℕ) → AreBytes b → j < n → number_from b o n / 256 ^ j % 256 ≡ slice_index b (o + j)
digit b zero o j h lt = absurd (omega arith)
digit b (suc n) o zero h lt =
    let low = byte-small b o h in
    let z : o + 0 ≡ o = omega arith in
    rw z (omega arith)
digit b (suc n) o (suc j) h lt =
    let low = byte-small b o h in
    let half : number_from b o (suc n) / 256 ≡ number_from b (o + 1) n = omega arith in
    let e : o + 1 + j ≡ o + suc j = omega arith in
    ap (λ (x : ℕ). x % 256) (sym (next-byte (number_from b o (suc n)) j) ∙ ap (λ (x : ℕ). x / 256 ^ j) half) ∙ rw e at (digit b n (o + 1) j h (omega arith))

co-digit : (b : List ℕ) (n o j m : ℕ) → AreBytes b → j < n → m + number_from b o n + 1 ≡ 256 ^ n → 255 - m / 256 ^ j % 256 ≡ slice_index b (o + j)
co-digit b zero o j m h lt s = absurd (omega arith)
co-digit b (suc n) o zero m h lt s =
    let low = byte-small b o h in
    let z : o + 0 ≡ o = omega arith in
    let e = pow-suc 256 n in
    rw z (omega arith)
co-digit b (suc n) o (suc j) m h lt s =
    let low = byte-small b o h in
    let p = pow-suc 256 n in
    let half : m / 256 + number_from b (o + 1) n + 1 ≡ 256 ^ n = omega arith in
    let e : o + 1 + j ≡ o + suc j = omega arith in
    ap (λ (x : ℕ). 255 - x % 256) (sym (next-byte m j)) ∙ rw e at (co-digit b n (o + 1) j (m / 256) h (omega arith) half)

-- a word of a kind stands for itself, or for its complement
IsWord : Kind → ℕ → Type 0
IsWord k n = (wrap k (pos n) ≡ pos n) ⊎ ((m : ℕ) × (wrap k (pos n) ≡ negsuc m) × (m + n + 1 ≡ 256 ^ bytes_of k))

signed-64 : (n : ℕ) → n < 2 ^ 64 → (kinds.as_signed 64 n ≡ pos n) ⊎ ((m : ℕ) × (kinds.as_signed 64 n ≡ negsuc m) × (m + n + 1 ≡ 2 ^ 64))
signed-64 n h = by (nat_lt n (2 ^ 63)) refl
  where
    by : (b : Bool) → nat_lt n (2 ^ 63) ≡ b → (kinds.as_signed 64 n ≡ pos n) ⊎ ((m : ℕ) × (kinds.as_signed 64 n ≡ negsuc m) × (m + n + 1 ≡ 2 ^ 64))
    by true e = inl (grind (arith, nat_tests, ints))
    by false e = inr (2 ^ 64 - 1 - n, grind (arith, nat_tests, ints), omega arith)

signed-32 : (n : ℕ) → n < 2 ^ 32 → (kinds.as_signed 32 n ≡ pos n) ⊎ ((m : ℕ) × (kinds.as_signed 32 n ≡ negsuc m) × (m + n + 1 ≡ 2 ^ 32))
signed-32 n h = by (nat_lt n (2 ^ 31)) refl
  where
    by : (b : Bool) → nat_lt n (2 ^ 31) ≡ b → (kinds.as_signed 32 n ≡ pos n) ⊎ ((m : ℕ) × (kinds.as_signed 32 n ≡ negsuc m) × (m + n + 1 ≡ 2 ^ 32))
    by true e = inl (grind (arith, nat_tests, ints))
    by false e = inr (2 ^ 32 - 1 - n, grind (arith, nat_tests, ints), omega arith)

word-is : (k : Kind) (n : ℕ) → n < 256 ^ bytes_of k → IsWord k n
unfolding IsWord
word-is kinds.abstract_int n h = let e : n % 2 ^ 64 ≡ n = omega arith in rw e (signed-64 n h)
word-is kinds.i32 n h = let e : n % 2 ^ 32 ≡ n = omega arith in rw e (signed-32 n h)
word-is kinds.u32 n h = inl (let e : n % 2 ^ 32 ≡ n = omega arith in ap pos e)
word-is kinds.i64 n h = let e : n % 2 ^ 64 ≡ n = omega arith in rw e (signed-64 n h)
word-is kinds.u64 n h = inl (let e : n % 2 ^ 64 ≡ n = omega arith in ap pos e)

byte-back : (b : List ℕ) (o : ℕ) (k : Kind) (j : ℕ) → AreBytes b → j < bytes_of k → byte_of (read_number b o k) j ≡ slice_index b (o + j)
unfolding IsWord
byte-back b o k j h lt = by (word-is k (number_from b o (bytes_of k)) (number-small b (bytes_of k) o h))
  where
    by : IsWord k (number_from b o (bytes_of k)) → byte_of (read_number b o k) j ≡ slice_index b (o + j)
    by (inl e) = ap (λ (z : ℤ). byte_of z j) e ∙ digit b (bytes_of k) o j h lt
    by (inr e) = ap (λ (z : ℤ). byte_of z j) e.1 ∙ co-digit b (bytes_of k) o j e.0 h lt e.2

-- ---- each byte

byte-is : (f : List ℕ → ℤ) (b : List ℕ) (ls : List Leaf) (j : ℕ) → AreBytes b → Reads f b ls → byte_at f ls j ≡ (if is_covered ls j then slice_index b j else 0)
byte-is f b [] j h r = refl
byte-is f b (l ∷ ls) j h r = by (byte-is f b ls j h r.1) (covers l j) refl
  where
    by : byte_at f ls j ≡ (if is_covered ls j then slice_index b j else 0) → (c : Bool) → covers l j ≡ c → (if c then byte_of (f l.path) (j - l.offset) else byte_at f ls j) ≡ (if (c || is_covered ls j) then slice_index b j else 0)
    by rest true e =
        let w = inside l.offset (bytes_of l.kind) j e in
        let lo = w.0 in let hi = w.1 in
        let d : l.offset + (j - l.offset) ≡ j = omega arith in
        ap (λ (z : ℤ). byte_of z (j - l.offset)) r.0 ∙ byte-back b l.offset l.kind (j - l.offset) h (omega arith) ∙ ap (slice_index b) d
    by rest false e = rest

pub has-the-bytes : AReadValueHasTheBytes
has-the-bytes b t v h e =
    let reads = subst (IsReadOf b t) e (decoding-is-reading b t) in
    let l = layout_of v in
    alike (byte_at (number_at v) (leaves l)) (λ j. if is_covered (leaves l) j then slice_index b j else 0) 0 0 (length_in l) (λ j lt. byte-is (number_at v) b (leaves l) (0 + j) h reads.0.reads)
