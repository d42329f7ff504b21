use Rattle.std.proofs.Common.{◌≡◌, ℕ, Some, None, option_and_then, ◌∙◌, ap, sym}
use Rattle.std.specs.Option.{option_map}
use Rattle.wgsl_scalar.specs.Literals.{literal_of}
use Rattle.wgsl_source.specs.Numbers.{number_in}
use Rattle.wgsl_source.proofs.LiteralLemmas.{no_integer, is_integer}
use Rattle.wgsl_source.proofs.literal.literal_of.Goals as goal

pub returns-in-Some : goal.returns-in-Some
returns-in-Some c = (
  sym c.is_float.ensures ∙ c.if-is_float.false,
  is_integer c.args.text.now c.split_suffix-suffix.result.0.now c.split_suffix-suffix.result.1 c.number_of.result c.in-Some.literal c.split_suffix-suffix.ensures.parts c.number_of.ensures
      (sym c.literal_in.ensures ∙ ap (option_map literal_of) c.in-Some.is),
)

pub returns-in-None : goal.returns-in-None
returns-in-None c =
    let none : (n : ℕ) → c.number_of.result ≡ Some n → number_in c.split_suffix-suffix.result.1 n ≡ None = λ n e.
    ap (option_and_then (number_in c.split_suffix-suffix.result.1)) (sym e) ∙ sym c.literal_in.ensures ∙ ap (option_map literal_of) c.in-None.is in (
      sym c.is_float.ensures ∙ c.if-is_float.false,
      no_integer c.args.text.now c.split_suffix-suffix.result.0.now c.split_suffix-suffix.result.1 c.number_of.result c.split_suffix-suffix.ensures.each c.number_of.ensures none,
    )
