use Rattle.std.proofs.Common.{◌≡◌, ℕ, ◌<◌, ◌≤◌, Some, None, Bool, true, false, sym, ap, ◌∙◌, arith}
use Rattle.std.specs.Prelude.{nat_le, if◌then◌else◌}
use Rattle.std.proofs.lemmas.Bool.Decides.{nat_tests}
use Rattle.wgsl_rules.specs.Types.{Ty}
use Rattle.wgsl_rules.specs.Layout.{size, tail_of, count_with, count_in}
use Rattle.wgsl_layout.proofs.extent.Extent.count_in.Goals as goal

enough : (n len : ℕ) → n ≤ len → nat_le n len ≡ true
enough n len h = grind (arith, nat_tests)

too-few : (n len : ℕ) → len < n → nat_le n len ≡ false
too-few n len h = grind (arith, nat_tests)

without-tail : (t : Ty) (n len : ℕ) (b : Bool) → tail_of t ≡ None → n ≡ size t → nat_le n len ≡ b → count_in len t ≡ (if b then Some 0 else None)
without-tail t n len b none is test =
    ap (count_with len (size t)) none ∙ ap (λ (x : ℕ). if nat_le x len then Some 0 else None) (sym is) ∙ ap (λ (c : Bool). if c then Some 0 else None) test

pub returns-then-size-len : goal.returns-then-size-len
returns-then-size-len c = λ t is.
    let told = rw c.in-Fixed.is at is in
    sym (without-tail t c.in-Fixed.size c.args.len true told.1 told.0 (enough c.in-Fixed.size c.args.len c.if-size-len.true))

pub returns-else-size-len : goal.returns-else-size-len
returns-else-size-len c = λ t is.
    let told = rw c.in-Fixed.is at is in
    sym (without-tail t c.in-Fixed.size c.args.len false told.1 told.0 (too-few c.in-Fixed.size c.args.len c.if-size-len.false))
