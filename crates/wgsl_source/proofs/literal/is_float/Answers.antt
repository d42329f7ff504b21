use Rattle.std.proofs.Common.{Bool, ◌||◌, ◌∙◌, ap, sym}
use Rattle.wgsl_source.specs.Numbers.{has_byte, is_decimal_float_text}
use Rattle.wgsl_source.proofs.LiteralLemmas.{is_float_text-hexadecimal, is_float_text-decimal}
use Rattle.wgsl_source.proofs.literal.is_float.Goals as goal

pub returns-in-Some : goal.returns-in-Some
returns-in-Some c =
    let marks : Bool = has_byte c.in-Some.digits.now 112 || has_byte c.in-Some.digits.now 80 in
    c.has_either.ensures ∙ sym (is_float_text-hexadecimal c.args.text.now c.in-Some.digits.now c.in-Some.ensures ∙ ap (λ b. b || marks) (sym c.has.ensures ∙ c.if-has.false))

pub returns-in-None : goal.returns-in-None
returns-in-None c =
    let marks : Bool = is_decimal_float_text c.args.text.now in
    c.is_decimal_float.ensures ∙ sym (is_float_text-decimal c.args.text.now c.in-None.ensures ∙ ap (λ b. b || marks) (sym c.has.ensures ∙ c.if-has.false))
