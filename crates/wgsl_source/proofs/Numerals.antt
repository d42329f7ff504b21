-- The digits of a hexadecimal number are one.
use Rattle.std.proofs.Common.{◌≡◌, ℕ, List, inl, inr, arith}
use Rattle.wgsl_source.specs.Numbers.{IsHexadecimal}

pub hexadecimal_same : (text ds es : List ℕ) → IsHexadecimal text ds → IsHexadecimal text es → ds ≡ es
hexadecimal_same text ds es (inl p) (inl q) = cc
hexadecimal_same text ds es (inl p) (inr q) = absurd (grind arith)
hexadecimal_same text ds es (inr p) (inl q) = absurd (grind arith)
hexadecimal_same text ds es (inr p) (inr q) = cc
