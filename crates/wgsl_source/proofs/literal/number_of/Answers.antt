use Rattle.std.proofs.Common.{subst, List, ℕ}
use Rattle.wgsl_source.specs.Numbers.{Reads}
use Rattle.wgsl_source.proofs.Numerals.{hexadecimal_same}
use Rattle.wgsl_source.proofs.literal.number_of.Goals as goal

pub returns-in-Some : goal.returns-in-Some
returns-in-Some c = record {
  hexadecimal = λ digits is.
      let P : List ℕ → Type 0 = λ ds. Reads 16 ds c.hexadecimal_number.result in
      subst P (hexadecimal_same c.args.digits.now c.in-Some.digits.now digits c.in-Some.ensures is) c.hexadecimal_number.ensures;
  decimal = λ none. absurd (none c.in-Some.digits.now c.in-Some.ensures);
}

pub returns-in-None : goal.returns-in-None
returns-in-None c = record {
  hexadecimal = λ digits is. absurd (c.in-None.ensures digits is);
  decimal = λ none. c.decimal_number.ensures;
}
