-- The low bits of a number, as the processor keeps it in 128 bits.
use Rattle.std.proofs.Common.{◌≡◌, ℕ, suc, ◌-◌, ◌%◌, ◌^◌, ◌<◌, ℤ, pos, negsuc, arith, ◌∙◌, FitsSigned}
use Rattle.std.specs.Int.{w128, cast_unsigned}
use Rattle.std.specs.Int.RustNames.{bit_and}
use Rattle.std.proofs.lemmas.Nat.{and_mask}
use Rattle.wgsl_rules.specs.Kinds.{modulo}

left_32 : (a : ℕ) → a < 2 ^ 127 → (2 ^ 128 - suc a) % 2 ^ 32 ≡ 2 ^ 32 - 1 - a % 2 ^ 32
left_32 a h = omega arith

left_64 : (a : ℕ) → a < 2 ^ 127 → (2 ^ 128 - suc a) % 2 ^ 64 ≡ 2 ^ 64 - 1 - a % 2 ^ 64
left_64 a h = omega arith

pub low_32-is : (z : ℤ) → FitsSigned w128 z → bit_and (cast_unsigned w128 z) (2 ^ 32 - 1) ≡ modulo z (2 ^ 32)
low_32-is (pos a) h = and_mask a 32
low_32-is (negsuc a) h = and_mask (2 ^ 128 - suc a) 32 ∙ left_32 a h.sfits

pub low_64-is : (z : ℤ) → FitsSigned w128 z → bit_and (cast_unsigned w128 z) (2 ^ 64 - 1) ≡ modulo z (2 ^ 64)
low_64-is (pos a) h = and_mask a 64
low_64-is (negsuc a) h = and_mask (2 ^ 128 - suc a) 64 ∙ left_64 a h.sfits
