-- The ranges of kinds: numbers in them wrap to themselves, and what is made of them stays in range.
use Rattle.std.proofs.Common.{◌≡◌, ◌≢◌, ℕ, suc, ◌-◌, ◌*◌, ◌/◌, ◌%◌, ◌^◌, ◌<◌, ◌≤◌, ℤ, pos, negsuc, ◌+ℤ◌, ◌-ℤ◌, ◌*ℤ◌, neg_ℤ, ◌≤ℤ◌, ◌<ℤ◌, arith, refl, sym, ap, ◌∙◌, FitsSigned, unsigned_abs, lit<, to_z}
use Rattle.std.specs.Int.{w128}
use Rattle.std.specs.Int.RustNames.{int_div, int_rem}
use Rattle.std.proofs.lemmas.Int.{ints, fits_signed_mul, quot-rem, to_z_pos}
use lib.IntN.{*ℤ_comm}
use Rattle.std.proofs.Math.Pow.{pow_mono}
use Rattle.std.proofs.Math.Nat.{mod-le, div-le_self, div-eq_of_lt}
use Rattle.wgsl_rules.specs.Kinds as kinds
use Rattle.wgsl_rules.specs.Kinds.{Kind, InKind, in_kind, wrap, modulo, width, floor_div}
use Rattle.wgsl_scalar.specs.Arith.{cut_remainder}
use Rattle.wgsl_scalar.specs.Order.{lesser, greater}

-- a number of the kind is what it wraps to
pub wrap_same : (k : Kind) (z : ℤ) → InKind k z → wrap k z ≡ z
wrap_same kinds.abstract_int (pos a) h = grind (arith, ints)
wrap_same kinds.abstract_int (negsuc a) h = grind (arith, ints)
wrap_same kinds.i32 (pos a) h = grind (arith, ints)
wrap_same kinds.i32 (negsuc a) h = grind (arith, ints)
wrap_same kinds.u32 (pos a) h = grind (arith, ints)
wrap_same kinds.u32 (negsuc a) h = grind (arith, ints)
wrap_same kinds.i64 (pos a) h = grind (arith, ints)
wrap_same kinds.i64 (negsuc a) h = grind (arith, ints)
wrap_same kinds.u64 (pos a) h = grind (arith, ints)
wrap_same kinds.u64 (negsuc a) h = grind (arith, ints)

-- the range that all kinds together span
pub record IsNarrow (z : ℤ) : Type 0 where
  pub above : negsuc (2 ^ 63 - 1) ≤ℤ z
  pub below : z <ℤ pos (2 ^ 64)

pub narrow : (k : Kind) (z : ℤ) → InKind k z → IsNarrow z
narrow kinds.abstract_int z h = record { above = grind (arith, ints); below = grind (arith, ints) }
narrow kinds.i32 z h = record { above = grind (arith, ints); below = grind (arith, ints) }
narrow kinds.u32 z h = record { above = grind (arith, ints); below = grind (arith, ints) }
narrow kinds.i64 z h = record { above = grind (arith, ints); below = grind (arith, ints) }
narrow kinds.u64 z h = record { above = grind (arith, ints); below = grind (arith, ints) }

-- the lesser and the greater of two numbers of a kind are of the kind
pub lesser_in : (k : Kind) (a b : ℤ) → InKind k a → InKind k b → InKind k (lesser a b)
lesser_in k a b g h = grind arith

pub greater_in : (k : Kind) (a b : ℤ) → InKind k a → InKind k b → InKind k (greater a b)
greater_in k a b g h = grind arith

-- ---- products

unsigned_abs_narrow : (z : ℤ) → IsNarrow z → unsigned_abs z ≤ 2 ^ 64 - 1
unsigned_abs_narrow (pos a) h = grind (arith, ints)
unsigned_abs_narrow (negsuc a) h = grind (arith, ints)

unsigned_abs_le : (k : Kind) (z : ℤ) → k ≢ kinds.u64 → InKind k z → unsigned_abs z ≤ 2 ^ 63
unsigned_abs_le kinds.abstract_int (pos a) n h = grind (arith, ints)
unsigned_abs_le kinds.abstract_int (negsuc a) n h = grind (arith, ints)
unsigned_abs_le kinds.i32 (pos a) n h = grind (arith, ints)
unsigned_abs_le kinds.i32 (negsuc a) n h = grind (arith, ints)
unsigned_abs_le kinds.u32 (pos a) n h = grind (arith, ints)
unsigned_abs_le kinds.u32 (negsuc a) n h = grind (arith, ints)
unsigned_abs_le kinds.i64 (pos a) n h = grind (arith, ints)
unsigned_abs_le kinds.i64 (negsuc a) n h = grind (arith, ints)
unsigned_abs_le kinds.u64 z n h = absurd (n refl)

-- a product fits 128 bits, but of unsigned numbers of 64 bits
pub product_fits : (k : Kind) (a b : ℤ) → k ≢ kinds.u64 → InKind k a → InKind k b → FitsSigned w128 (a *ℤ b)
product_fits k a b n g h =
    fits_signed_mul w128 a b (2 ^ 63) (2 ^ 63) (unsigned_abs_le k a n g) (unsigned_abs_le k b n h) (lit< tt)

-- ---- remainders

left_over : (a p q r : ℤ) → q +ℤ r ≡ a → p ≡ q → a -ℤ p ≡ r
left_over a p q r e f = omega (arith, ints)

-- what the code's remainder is
pub cut_remainder-is : (a b : ℤ) → cut_remainder a b ≡ int_rem a b
cut_remainder-is a b = left_over a (b *ℤ int_div a b) (int_div a b *ℤ b) (int_rem a b) (quot-rem a b) (*ℤ_comm b (int_div a b))

-- a number of the same sign that is not farther from 0 is of the kind too
nearer_above : (k : Kind) (a r : ℕ) → r ≤ a → InKind k (pos a) → InKind k (pos r)
nearer_above kinds.abstract_int a r e h = grind (arith, ints)
nearer_above kinds.i32 a r e h = grind (arith, ints)
nearer_above kinds.u32 a r e h = grind (arith, ints)
nearer_above kinds.i64 a r e h = grind (arith, ints)
nearer_above kinds.u64 a r e h = grind (arith, ints)

nearer_below : (k : Kind) (a r : ℕ) → r ≤ suc a → InKind k (negsuc a) → InKind k (neg_ℤ (pos r))
nearer_below kinds.abstract_int a r e h = grind (arith, ints)
nearer_below kinds.i32 a r e h = grind (arith, ints)
nearer_below kinds.u32 a r e h = grind (arith, ints)
nearer_below kinds.i64 a r e h = grind (arith, ints)
nearer_below kinds.u64 a r e h = grind (arith, ints)

nearer_under : (k : Kind) (a r : ℕ) → r ≤ a → InKind k (negsuc a) → InKind k (negsuc r)
nearer_under kinds.abstract_int a r e h = grind (arith, ints)
nearer_under kinds.i32 a r e h = grind (arith, ints)
nearer_under kinds.u32 a r e h = grind (arith, ints)
nearer_under kinds.i64 a r e h = grind (arith, ints)
nearer_under kinds.u64 a r e h = grind (arith, ints)

pub remainder_in_kind : (k : Kind) (a b : ℤ) → InKind k a → InKind k (int_rem a b)
remainder_in_kind k (pos a) b h = nearer_above k a (a % unsigned_abs b) (mod-le a (unsigned_abs b)) h
remainder_in_kind k (negsuc a) b h = nearer_below k a (suc a % unsigned_abs b) (mod-le (suc a) (unsigned_abs b)) h

-- ---- shifts

-- a number of any kind times 2 ^ 63 has a sign and 127 bits
pub scaled_fits : (k : Kind) (z : ℤ) (places : ℕ) → InKind k z → places < 64 → FitsSigned w128 (z *ℤ pos (2 ^ places))
scaled_fits k z places h l =
    let few : places ≤ 63 = omega arith in
    fits_signed_mul w128 z (pos (2 ^ places)) (2 ^ 64 - 1) (2 ^ 63) (unsigned_abs_narrow z (narrow k z h)) (pow_mono few) (lit< tt)

-- a power of two in a word of 128 bits
pub pow_is : (places : ℕ) → places < 64 → to_z w128 (1 * 2 ^ places % 2 ^ 128) ≡ pos (2 ^ places)
pow_is places l =
    let few : places ≤ 63 = omega arith in
    let small : 2 ^ places ≤ 2 ^ 63 = pow_mono few in
    let same : 1 * 2 ^ places % 2 ^ 128 ≡ 2 ^ places = omega arith in
    ap (to_z w128) same ∙ to_z_pos w128 (2 ^ places) (omega arith)

pub floor_in : (k : Kind) (z : ℤ) (places : ℕ) → InKind k z → InKind k (floor_div z (2 ^ places))
floor_in k (pos a) places h = nearer_above k a (a / 2 ^ places) (div-le_self a (2 ^ places)) h
floor_in k (negsuc a) places h = nearer_under k a (a / 2 ^ places) (div-le_self a (2 ^ places)) h

floor_none : (a places : ℕ) → a < 2 ^ 64 → 64 ≤ places → a / 2 ^ places ≡ a / 2 ^ 64
floor_none a places h l =
    let more : 2 ^ 64 ≤ 2 ^ places = pow_mono l in
    div-eq_of_lt (omega arith) ∙ sym (div-eq_of_lt h)

-- past 64 places nothing is left but the sign
pub floor_far : (k : Kind) (z : ℤ) (places : ℕ) → InKind k z → 64 ≤ places → floor_div z (2 ^ places) ≡ floor_div z (2 ^ 64)
floor_far k (pos a) places h l = let n = narrow k (pos a) h in ap pos (floor_none a places (omega (arith, ints, n.below)) l)
floor_far k (negsuc a) places h l = let n = narrow k (negsuc a) h in ap negsuc (floor_none a places (omega (arith, ints, n.above)) l)
