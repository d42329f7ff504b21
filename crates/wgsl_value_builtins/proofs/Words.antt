-- Words that are packed again after they were unpacked.
use Rattle.std.proofs.Common.{◌≡◌, ℕ, ◌+◌, ◌*◌, ◌/◌, ◌%◌, ◌^◌, ◌<◌, pos, negsuc, Ok, arith, ap}
use Rattle.std.proofs.Math.Nat.{mod-lt, mod-mod}
use Rattle.std.proofs.lemmas.Bool.Decides.{nat_tests}
use Rattle.std.proofs.lemmas.Int.{ints}
use Rattle.wgsl_rules.specs.Kinds as kinds
use Rattle.wgsl_rules.specs.Kinds.{InKind, modulo}
use Rattle.wgsl_rules.specs.Refusals.{Outcome}
use Rattle.wgsl_rules.specs.Values.{Val, number}
use Rattle.wgsl_value_builtins.specs.Laws.{UnpackedBytesPackAgain, PackingUndoesUnpacking}
use Rattle.wgsl_value_builtins.specs.Packing.{signed_byte, limited_signed, limited_unsigned}

-- a byte with a sign has its bits
signed_byte-low : (b : ℕ) → b < 256 → modulo (signed_byte b) 256 ≡ b
signed_byte-low b h = grind (arith, nat_tests, ints)

-- and is within the limits
signed_byte-limited : (b : ℕ) → b < 256 → modulo (limited_signed (signed_byte b)) 256 ≡ b
signed_byte-limited b h = grind (arith, nat_tests, ints)

byte-limited : (b : ℕ) → b < 256 → modulo (limited_unsigned (pos b)) 256 ≡ b
byte-limited b h = grind (arith, nat_tests, ints)

-- the word of four bytes
abbrev word_of : ℕ → ℕ → ℕ → ℕ → Val
word_of a b c d = number kinds.u32 (pos (a + 256 * (b + 256 * (c + 256 * (d + 256 * 0)))))

same_word : (n a b c d : ℕ) → n < 2 ^ 32 → a ≡ n / 256 ^ 0 % 256 → b ≡ n / 256 ^ 1 % 256 → c ≡ n / 256 ^ 2 % 256 → d ≡ n / 256 ^ 3 % 256
    → word_of a b c d ≡ number kinds.u32 (pos n)
same_word n a b c d h e f g i = ap (λ (m : ℕ). number kinds.u32 (pos m)) (omega arith)

abbrev ok : Val → Outcome Val
ok v = Ok v

digit-lt : (n i : ℕ) → n / 256 ^ i % 256 < 256
digit-lt n i = mod-lt (n / 256 ^ i) (omega arith)

packs : (n : ℕ) → n < 2 ^ 32 → UnpackedBytesPackAgain (pos n)
packs n h = record {
  signed = ap ok (same_word n _ _ _ _ h (signed_byte-low _ (digit-lt n 0)) (signed_byte-low _ (digit-lt n 1)) (signed_byte-low _ (digit-lt n 2)) (signed_byte-low _ (digit-lt n 3)));
  unsigned = ap ok (same_word n _ _ _ _ h (mod-mod (n / 256 ^ 0) 256) (mod-mod (n / 256 ^ 1) 256) (mod-mod (n / 256 ^ 2) 256) (mod-mod (n / 256 ^ 3) 256));
  signed_limited = ap ok (same_word n _ _ _ _ h (signed_byte-limited _ (digit-lt n 0)) (signed_byte-limited _ (digit-lt n 1)) (signed_byte-limited _ (digit-lt n 2)) (signed_byte-limited _ (digit-lt n 3)));
  unsigned_limited = ap ok (same_word n _ _ _ _ h (byte-limited _ (digit-lt n 0)) (byte-limited _ (digit-lt n 1)) (byte-limited _ (digit-lt n 2)) (byte-limited _ (digit-lt n 3)));
}

pub packing-undoes : PackingUndoesUnpacking
packing-undoes (pos n) h = packs n (grind (arith, ints))
packing-undoes (negsuc n) h = absurd (cc)
