-- A field that is inserted again changes nothing, and the first bit and the zeros above it make the width.
use Rattle.std.proofs.Common.{◌≡◌, ℕ, zero, suc, ◌+◌, ◌-◌, ◌^◌, ◌<◌, ◌≤◌, ℤ, pos, negsuc, ◌+ℤ◌, ◌-ℤ◌, Bool, true, false, nat_lt, ◌&&◌, Some, None, Ok, arith, refl, sym, ap, ◌∙◌, if◌then◌else◌}
use Rattle.std.specs.Prelude.{nat_le}
use Rattle.std.specs.Int.{bit_at}
use Rattle.std.proofs.lemmas.Bool.Decides.{nat_tests}
use Rattle.std.proofs.lemmas.Int.{ints}
use Rattle.std.proofs.lemmas.Nat.{leading_length}
use Rattle.wgsl_rules.specs.Kinds as kinds
use Rattle.wgsl_rules.specs.Kinds.{Kind, InKind, in_kind, width, is_signed, wrap}
use Rattle.wgsl_rules.specs.Refusals.{Outcome, and_then, builtin}
use Rattle.wgsl_rules.specs.Values.{Val, number}
use Rattle.wgsl_rules.proofs.lemmas.Tests.{both}
use Rattle.wgsl_scalar.specs.BitFields.{on_word, extracted_in, inserted, inserted_in, field_start, field_width, bit_above, with_field_in}
use Rattle.wgsl_scalar.specs.Bits.{bit, from_bits}
use Rattle.wgsl_scalar.specs.Counts.{bit_length}
use Rattle.wgsl_scalar.specs.Laws.{InsertingBackChangesNothing, LeadingBitAndZerosAddUp}
use Rattle.wgsl_scalar.specs.Operands.{Operands, ok_or}
use Rattle.wgsl_scalar.proofs.lemmas.BitLaws.{bit_lt, bit_length_le, bit_length-is}
use Rattle.wgsl_scalar.proofs.lemmas.InKind.{wrap-in}
use Rattle.wgsl_scalar.proofs.lemmas.WordBits.{AreBits, word-bit, word-back}

-- ---- a field inserted again

abbrev ok : Val → Outcome Val
ok v = Ok v

either : {A : Type 0} (b : Bool) (x y z : A) → (b ≡ true → x ≡ z) → y ≡ z → (if b then x else y) ≡ z
either true x y z f g = f refl
either false x y z f g = g

chosen : (b : Bool) (m n : ℕ) → b ≡ true → (if b then m else n) ≡ m
chosen true m n h = refl
chosen false m n h = absurd (cc)

picked : (b : Bool) (p : Operands) (f : Operands → Outcome Val) → b ≡ true → and_then (ok_or builtin (if b then Some p else None)) f ≡ f p
picked true p f h = refl
picked false p f h = absurd (cc)

abbrev field_bits : ℕ → ℕ → Kind → ℤ → ℕ → ℕ
field_bits o w k z i = if nat_lt i w then bit z (o + i) else bit_above k z o w

fewer : (b : Bool) (m n : ℕ) → m < 2 → n < 2 → (if b then m else n) < 2
fewer true m n h g = h
fewer false m n h g = g

are_bits : (o w : ℕ) (k : Kind) (z : ℤ) → AreBits (field_bits o w k z)
are_bits o w k z i = fewer (nat_lt i w) _ _ (bit_lt z (o + i)) (fewer (is_signed k && nat_lt 0 w) _ _ (bit_lt z (o + w - 1)) (omega arith))

place : (o w i : ℕ) → (nat_le o i && nat_lt i (o + w)) ≡ true → (nat_lt (i - o) w ≡ true) × (o + (i - o) ≡ i)
place o w i h = (grind (arith, nat_tests), grind (arith, nat_tests))

-- the field of the bits of z in z
put-back : (o w : ℕ) (k : Kind) (z : ℤ) → width k ≡ 32 → InKind k z
    → with_field_in o w k z (wrap k (pos (from_bits (width k) (field_bits o w k z)))) ≡ number k z
put-back o w k z e h =
    ap (number k) (word-back k _ z e h (λ i l.
    either (nat_le o i && nat_lt i (o + w)) _ _ _ (λ t.
    let (in_field, back) = place o w i t in
    let low : i - o < 32 = omega arith in
    word-bit k (field_bits o w k z) (i - o) e (are_bits o w k z) low
    ∙ chosen (nat_lt (i - o) w) _ _ in_field
    ∙ ap (bit z) back)
    refl))

-- the word with the bits of a field
abbrev field_word : ℕ → ℕ → Kind → ℤ → ℤ
field_word offset count k z = pos (from_bits (width k) (field_bits (field_start offset) (field_width offset count) k z))

abbrev put : ℕ → ℕ → Operands → Outcome Val
put offset count p = on_word (λ k z. inserted_in offset count k z p.right) (number p.kind p.left)

abbrev InsertedBack : ℕ → ℕ → Kind → ℤ → Type 0
InsertedBack offset count k z = inserted offset count (number k z) (extracted_in offset count k z) ≡ Ok (number k z)

signed-back : (offset count : ℕ) (z : ℤ) → InKind kinds.i32 z → InsertedBack offset count kinds.i32 z
signed-back offset count z h =
    let y = field_word offset count kinds.i32 z in
    let p : Operands = record { kind = kinds.i32; left = z; right = wrap kinds.i32 y } in
    picked (in_kind kinds.i32 z && in_kind kinds.i32 (wrap kinds.i32 y)) p (put offset count) (both _ _ h (wrap-in kinds.i32 y))
    ∙ ap ok (put-back (field_start offset) (field_width offset count) kinds.i32 z refl h)

unsigned-back : (offset count : ℕ) (z : ℤ) → InKind kinds.u32 z → InsertedBack offset count kinds.u32 z
unsigned-back offset count z h =
    let y = field_word offset count kinds.u32 z in
    let p : Operands = record { kind = kinds.u32; left = z; right = wrap kinds.u32 y } in
    picked (in_kind kinds.u32 z && in_kind kinds.u32 (wrap kinds.u32 y)) p (put offset count) (both _ _ h (wrap-in kinds.u32 y))
    ∙ ap ok (put-back (field_start offset) (field_width offset count) kinds.u32 z refl h)

pub inserting_back : InsertingBackChangesNothing
inserting_back offset count (number kinds.i32 z) w h e =
    let same : extracted_in offset count kinds.i32 z ≡ w = cc in
    ap (inserted offset count (number kinds.i32 z)) (sym same) ∙ signed-back offset count z h
inserting_back offset count (number kinds.u32 z) w h e =
    let same : extracted_in offset count kinds.u32 z ≡ w = cc in
    ap (inserted offset count (number kinds.u32 z)) (sym same) ∙ unsigned-back offset count z h
inserting_back offset count v w h e = absurd (cc)

-- ---- the first bit, and the zeros above it

bits_above_none : (n : ℕ) → 0 < n → n < 2 ^ 32 → 0 < bit_length 32 (bit (pos n))
bits_above_none n h l =
    let (m, fits, below, above) = leading_length 32 n l in
    let is : bit_length 32 (bit_at n) ≡ m = bit_length-is 32 n m l below above (omega (arith, fits)) in
    some m is below
  where
    some : (m : ℕ) → bit_length 32 (bit_at n) ≡ m → n < 2 ^ m → 0 < bit_length 32 (bit (pos n))
    some zero is small = absurd (omega arith)
    some (suc m) is small = omega arith

add_up : (l : ℕ) → 0 < l → l ≤ 32 → wrap kinds.u32 (pos l -ℤ pos 1) +ℤ pos (32 - l) ≡ pos 31
add_up zero h g = absurd (omega arith)
add_up (suc l) h g = let e : pos (suc l) -ℤ pos 1 ≡ pos l = omega (arith, ints) in rw e (omega (arith, ints))

pub leading_add_up : LeadingBitAndZerosAddUp
leading_add_up (pos zero) a b h n f g = absurd (n refl)
leading_add_up (pos (suc m)) a b h n f g =
    let l = bit_length 32 (bit (pos (suc m))) in
    let first : wrap kinds.u32 (pos l -ℤ pos 1) ≡ a = cc in
    let zeros : pos (32 - l) ≡ b = cc in
    let small : suc m < 2 ^ 32 = grind (arith, ints) in
    rw (← first, ← zeros) (add_up l (bits_above_none (suc m) (omega arith) small) (bit_length_le 32 (bit (pos (suc m)))))
leading_add_up (negsuc m) a b h n f g = absurd (cc)
