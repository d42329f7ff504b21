-- Bits of a literal that are reversed twice are as before.
use Rattle.std.proofs.Common.{◌≡◌, ◌-◌, ◌<◌, ℤ, pos, Ok, arith, refl, sym, ap, ◌∙◌}
use Rattle.wgsl_rules.specs.Kinds as kinds
use Rattle.wgsl_rules.specs.Kinds.{Kind, InKind, width, wrap}
use Rattle.wgsl_rules.specs.Refusals.{Outcome}
use Rattle.wgsl_rules.specs.Values.{Val, number}
use Rattle.wgsl_scalar.specs.BitFields.{reversed, reversed_in}
use Rattle.wgsl_scalar.specs.Bits.{bit, from_bits}
use Rattle.wgsl_scalar.specs.Laws.{ReversingTwiceChangesNothing}
use Rattle.wgsl_scalar.proofs.lemmas.BitLaws.{bit_lt}
use Rattle.wgsl_scalar.proofs.lemmas.WordBits.{word-bit, word-back}

-- the number of the bits of z in reverse
abbrev turned_round : Kind → ℤ → ℤ
turned_round k z = wrap k (pos (from_bits (width k) (λ i. bit z (31 - i))))

twice : (k : Kind) (z : ℤ) → width k ≡ 32 → InKind k z → turned_round k (turned_round k z) ≡ z
twice k z e h =
    word-back k (λ i. bit (turned_round k z) (31 - i)) z e h (λ i l.
    let low : 31 - i < 32 = omega arith in
    let back : 31 - (31 - i) ≡ i = omega arith in
    word-bit k (λ j. bit z (31 - j)) (31 - i) e (λ j. bit_lt z (31 - j)) low ∙ ap (bit z) back)

abbrev again : Kind → ℤ → Outcome Val
again k z = Ok (number k z)

pub reversing_twice : ReversingTwiceChangesNothing
reversing_twice (number kinds.i32 z) w h e =
    let same : reversed_in kinds.i32 z ≡ w = cc in ap reversed (sym same) ∙ ap (again kinds.i32) (twice kinds.i32 z refl h)
reversing_twice (number kinds.u32 z) w h e =
    let same : reversed_in kinds.u32 z ≡ w = cc in ap reversed (sym same) ∙ ap (again kinds.u32) (twice kinds.u32 z refl h)
reversing_twice v w h e = absurd (cc)
