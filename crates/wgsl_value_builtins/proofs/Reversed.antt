-- Bits that are reversed twice are as before.
use Rattle.std.proofs.Common.{◌≡◌, Ok, refl, sym, ap, ap₂, ◌∙◌}
use Rattle.wgsl_value_ops.specs.Lift.{followed, lifted, vector_of}
use Rattle.wgsl_rules.specs.Kinds as kinds
use Rattle.wgsl_rules.specs.Refusals.{and_then}
use Rattle.wgsl_rules.specs.Values.{Val, truth, number, vector, Vals, no_vals, val, AreStorable}
use Rattle.wgsl_scalar.specs.BitFields.{reversed, reversed_in}
use Rattle.wgsl_scalar.proofs.lemmas.Reversed.{reversing_twice}
use Rattle.wgsl_value_builtins.specs.BitFunctions.{reversed_bits}
use Rattle.wgsl_value_builtins.specs.Laws.{ReversedTwiceIsItself}
use Rattle.wgsl_value_ops.proofs.Outcomes.{then-is}

all-again : (vs ws : Vals) → AreStorable vs → lifted reversed vs ≡ Ok ws → lifted reversed ws ≡ Ok vs
all-again no_vals ws h e = let same : no_vals ≡ ws = cc in rw (← same) refl
all-again (val v vs) ws h e =
    let a = then-is (reversed v) (λ w. and_then (lifted reversed vs) (λ us. Ok (val w us))) ws e in
    let b = then-is (lifted reversed vs) (λ us. Ok (val a.first us)) ws a.rest in
    let same : val a.first b.first ≡ ws = let r = b.rest in cc in
    ap (lifted reversed) (sym same) ∙ ap₂ followed (reversing_twice v a.first h.0 a.is) (all-again vs b.first h.1 b.is)

on-literal : (v w : Val) → reversed v ≡ Ok w → reversed_bits w ≡ reversed w
on-literal (number kinds.i32 z) w e =
    let same : reversed_in kinds.i32 z ≡ w = cc in ap reversed_bits (sym same) ∙ ap reversed same
on-literal (number kinds.u32 z) w e =
    let same : reversed_in kinds.u32 z ≡ w = cc in ap reversed_bits (sym same) ∙ ap reversed same
on-literal v w e = absurd (cc)

pub reversed-twice : ReversedTwiceIsItself
reversed-twice (truth b) w h e = absurd (cc)
reversed-twice (number k z) w h e = on-literal (number k z) w e ∙ reversing_twice (number k z) w h e
reversed-twice (vector vs) w h e =
    let a = then-is (lifted reversed vs) (λ us. Ok (vector us)) w e in
    let same : vector a.first ≡ w = let r = a.rest in cc in
    ap reversed_bits (sym same) ∙ ap vector_of (all-again vs a.first h.4 a.is)
reversed-twice v w h e = absurd (cc)
