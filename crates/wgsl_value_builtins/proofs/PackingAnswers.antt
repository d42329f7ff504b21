-- What packing, unpacking and bitcasts answer may be stored.
use Rattle.std.proofs.Common.{◌≡◌, ℕ, zero, suc, ◌+◌, ◌*◌, ◌^◌, ◌<◌, ◌≤◌, List, [], ◌∷◌, map, length, ℤ, pos, negsuc, ◌+ℤ◌, ◌*ℤ◌, unsigned_abs, neg_ℤ, ◌≤ℤ◌, Bool, true, false, if◌then◌else◌, ◌==◌, Ok, Err, FitsSigned, lit<, arith, refl, sym, ap, ◌∙◌, subst}
use Rattle.std.specs.Int.{w16}
use Rattle.std.proofs.Math.Nat.{mod-lt, pow-suc}
use Rattle.std.proofs.lemmas.Bool.Decides.{nat_tests}
use Rattle.std.proofs.lemmas.Int.{ints, fits_signed_mul}
use Rattle.std.proofs.lemmas.Nat.{mul-le}
use Rattle.wgsl_rules.proofs.lemmas.Converted.{converted-type}
use Rattle.wgsl_rules.specs.Converted.{converted}
use Rattle.wgsl_rules.specs.Kinds as kinds
use Rattle.wgsl_rules.specs.Kinds.{Kind, InKind, modulo, floor_div}
use Rattle.wgsl_rules.specs.Layout.{size}
use Rattle.wgsl_rules.specs.Refusals.{and_then, builtin}
use Rattle.wgsl_rules.specs.TypeParts.{inner_type}
use Rattle.wgsl_rules.specs.Types as types
use Rattle.wgsl_rules.specs.Types.{Ty}
use Rattle.wgsl_rules.specs.Values.{Val, number, vector, Vals, no_vals, val, count, type_of, IsStorable, IsWellFormed}
use Rattle.wgsl_scalar.specs.Operands.{ok_or}
use Rattle.wgsl_layout.proofs.lemmas.Decoded.{decoding-is-reading}
use Rattle.wgsl_layout.specs.Buffers.{byte_of, buffer, decode, IsReadOf}
use Rattle.wgsl_value_builtins.proofs.ComponentLemmas.{components-are}
use Rattle.wgsl_value_ops.proofs.Outcomes.{then-is, some-of}
use Rattle.wgsl_value_builtins.specs.Components.{components_of}
use Rattle.wgsl_value_builtins.proofs.PackedBytes.{modulo_byte, byte_of-lt, BytesIn, signed-in, unsigned-in, four-storable, signed-product}
use Rattle.wgsl_value_builtins.specs.Bitcast.{taken_as, with_bytes_of, bitcast}
use Rattle.wgsl_value_builtins.specs.Laws.{Answers1, Answers2}
use Rattle.wgsl_value_builtins.specs.Lifts.{on_components}
use Rattle.wgsl_value_builtins.specs.Packing.{joined_bytes, low_byte, numbers, four_in, packed, unlimited, limited_signed, limited_unsigned, packed_signed, packed_unsigned, packed_signed_limited, packed_unsigned_limited, word_in, four_bytes, signed_byte, unsigned_byte, unpacked_signed, unpacked_unsigned, byte_products, dot_packed, dot_packed_signed, dot_packed_unsigned}

-- ---- packing

-- the number of at most n bytes
joined-lt : (limit : ℤ → ℤ) (zs : List ℤ) (n : ℕ) → length zs ≤ n → joined_bytes (map (λ z. low_byte (limit z)) zs) < 256 ^ n
joined-lt limit [] zero h = omega arith
joined-lt limit [] (suc n) h = omega (arith, joined-lt limit [] n (omega arith), pow-suc 256 n)
joined-lt limit (z ∷ zs) zero h = absurd (omega arith)
joined-lt limit (z ∷ zs) (suc n) h = omega (arith, modulo_byte (limit z), joined-lt limit zs n (omega arith), pow-suc 256 n)

numbers-few : (vs : Vals) → length (numbers vs) ≤ count vs
numbers-few no_vals = omega arith
numbers-few (val (number k z) vs) = omega (arith, numbers-few vs)
numbers-few (val v vs) = omega (arith, numbers-few vs)

four-few : (t : Ty) (v : Val) (zs : List ℤ) → IsWellFormed v → four_in t v ≡ Ok zs → length zs ≤ 4
four-few t v zs h e =
    let a = then-is (ok_or builtin (converted v (types.vec 4 t))) (λ w. and_then (components_of w) (λ vs. Ok (numbers vs))) zs e in
    let b = then-is (components_of a.first) (λ vs. Ok (numbers vs)) zs a.rest in
    let typed = converted-type v a.first (types.vec 4 t) h (some-of builtin (converted v (types.vec 4 t)) a.first a.is) in
    let both : type_of (vector b.first) ≡ types.vec 4 t = ap type_of (sym (components-are a.first b.first b.is)) ∙ typed in
    let four : count b.first ≡ 4 = cc in
    let same : numbers b.first ≡ zs = let r = b.rest in cc in
    subst (λ (xs : List ℤ). length xs ≤ 4) same (omega (arith, numbers-few b.first, four))

packed-storable : (t : Ty) (limit : ℤ → ℤ) → Answers1 (packed t limit)
packed-storable t limit v x h e =
    let a = then-is (four_in t v) (λ zs. Ok (number kinds.u32 (pos (joined_bytes (map (λ z. low_byte (limit z)) zs))))) x e in
    let same : number kinds.u32 (pos (joined_bytes (map (λ z. low_byte (limit z)) a.first))) ≡ x = let r = a.rest in cc in
    let below = joined-lt limit a.first 4 (four-few t v a.first h a.is) in
    subst IsStorable same (word-in (joined_bytes (map (λ z. low_byte (limit z)) a.first)) (omega arith))
  where
    word-in : (n : ℕ) → n < 2 ^ 32 → InKind kinds.u32 (pos n)
    word-in n l = grind (arith, ints)

pub packed_signed-storable : Answers1 packed_signed
packed_signed-storable = packed-storable types.i32 unlimited

pub packed_unsigned-storable : Answers1 packed_unsigned
packed_unsigned-storable = packed-storable types.u32 unlimited

pub packed_signed_limited-storable : Answers1 packed_signed_limited
packed_signed_limited-storable = packed-storable types.i32 limited_signed

pub packed_unsigned_limited-storable : Answers1 packed_unsigned_limited
packed_unsigned_limited-storable = packed-storable types.u32 limited_unsigned

-- ---- unpacking

unpacked-storable : (k : Kind) (f : ℕ → ℤ) → BytesIn k f → Answers1 (λ v. and_then (word_in v) (λ z. Ok (four_bytes k f z)))
unpacked-storable k f g v x h e =
    let a = then-is (word_in v) (λ z. Ok (four_bytes k f z)) x e in
    let same : four_bytes k f a.first ≡ x = let r = a.rest in cc in
    subst IsStorable same (four-storable k f a.first g)

pub unpacked_signed-storable : Answers1 unpacked_signed
unpacked_signed-storable = unpacked-storable kinds.i32 signed_byte signed-in

pub unpacked_unsigned-storable : Answers1 unpacked_unsigned
unpacked_unsigned-storable = unpacked-storable kinds.u32 unsigned_byte unsigned-in

-- ---- bitcast

with_bytes-storable : (t : Ty) (w x : Val) (b : Bool) → (if b then ok_or builtin (decode (buffer w) t) else Err builtin) ≡ Ok x → IsStorable x
with_bytes-storable t w x true e =
    let r = subst (IsReadOf (buffer w) t) (some-of builtin (decode (buffer w) t) x e) (decoding-is-reading (buffer w) t) in
    r.0.storable
with_bytes-storable t w x false e = absurd (cc)

pub bitcast-storable : (t : Ty) → Answers1 (bitcast t)
bitcast-storable t v x h e =
    let a = then-is (on_components (taken_as (inner_type t)) v) (λ w. with_bytes_of w t) x e in
    with_bytes-storable t a.first x (length (buffer a.first) == size t) a.rest

-- ---- sums of products of bytes

product-le : (a b : ℕ) → a < 256 → b < 256 → a * b ≤ 255 * 255
product-le a b h k = mul-le a b 255 255 (omega arith) (omega arith)

few-in : (a b c d : ℕ) → a ≤ 255 * 255 → b ≤ 255 * 255 → c ≤ 255 * 255 → d ≤ 255 * 255 → InKind kinds.u32 (pos ((a + b) + (c + d)))
few-in a b c d h k l m = grind (arith, ints)

unsigned-sum : (y z : ℤ) → InKind kinds.u32 (byte_products unsigned_byte y z)
unsigned-sum y z =
    let at = λ (i : ℕ). product-le (byte_of y i) (byte_of z i) (byte_of-lt y i) (byte_of-lt z i) in
    few-in _ _ _ _ (at 0) (at 1) (at 2) (at 3)

-- from -n to n
record IsWithin (n : ℕ) (z : ℤ) : Type 0 where
  above : neg_ℤ (pos n) ≤ℤ z
  below : z ≤ℤ pos n

within-product : (z : ℤ) → FitsSigned w16 z → IsWithin 32768 z
within-product z h = record { above = grind (arith, ints); below = grind (arith, ints) }

within-sum : (m n : ℕ) (y z : ℤ) → IsWithin m y → IsWithin n z → IsWithin (m + n) (y +ℤ z)
within-sum m n y z h k = record { above = omega (arith, ints); below = omega (arith, ints) }

within-int : (z : ℤ) → IsWithin 131072 z → InKind kinds.i32 z
within-int z h = grind (arith, ints)

four-in-int : (a b c d : ℤ) → FitsSigned w16 a → FitsSigned w16 b → FitsSigned w16 c → FitsSigned w16 d → InKind kinds.i32 ((a +ℤ b) +ℤ (c +ℤ d))
four-in-int a b c d h k l m =
    within-int ((a +ℤ b) +ℤ (c +ℤ d)) (within-sum 65536 65536 (a +ℤ b) (c +ℤ d) (within-sum 32768 32768 a b (within-product a h) (within-product b k)) (within-sum 32768 32768 c d (within-product c l) (within-product d m)))

signed-sum : (y z : ℤ) → InKind kinds.i32 (byte_products signed_byte y z)
signed-sum y z =
    let at = λ (i : ℕ). signed-product (byte_of y i) (byte_of z i) (byte_of-lt y i) (byte_of-lt z i) in
    four-in-int _ _ _ _ (at 0) (at 1) (at 2) (at 3)

dot-storable : (k : Kind) (f : ℕ → ℤ) → ((y z : ℤ) → InKind k (byte_products f y z)) → Answers2 (dot_packed k f)
dot-storable k f g v w x h l e =
    let a = then-is (word_in v) (λ y. and_then (word_in w) (λ z. Ok (number k (byte_products f y z)))) x e in
    let b = then-is (word_in w) (λ z. Ok (number k (byte_products f a.first z))) x a.rest in
    let same : number k (byte_products f a.first b.first) ≡ x = let r = b.rest in cc in
    subst IsStorable same (g a.first b.first)

pub dot_signed-storable : Answers2 dot_packed_signed
dot_signed-storable = dot-storable kinds.i32 signed_byte signed-sum

pub dot_unsigned-storable : Answers2 dot_packed_unsigned
dot_unsigned-storable = dot-storable kinds.u32 unsigned_byte unsigned-sum
