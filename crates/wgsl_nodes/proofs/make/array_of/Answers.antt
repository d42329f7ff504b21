use Rattle.std.proofs.Common.{ℕ, Option, sym, ◌∙◌, subst}
use Rattle.wgsl_nodes.proofs.Arrays.{SaysArray, tail-not-fixed, not-fixed-array, no-stride-says, sized-says, open-says}
use Rattle.wgsl_nodes.proofs.make.array_of.Goals as goal

pub returns-then-part-ne0 : goal.returns-then-part-ne0
returns-then-part-ne0 c = λ t host says. not-fixed-array t c.args.n (tail-not-fixed t c.args.part says c.if-part-ne0.true)

pub returns-in_err-stride : goal.returns-in_err-stride
returns-in_err-stride c = λ t host says.
    rw c.from_residual.ensures (no-stride-says t c.args.part c.args.n c.args.child c.stride_of.result host says c.if-part-ne0.false c.stride_of.ensures c.in_err-stride.was)

pub returns-in-Some : goal.returns-in-Some
returns-in-Some c = λ t host says.
    subst (λ (n : Option ℕ). SaysArray t n c.args.child c.sized_array.result) (sym c.in-Some.is)
    (sized-says t c.args.part c.in-Some.n c.in_ok-stride.stride c.args.child c.sized_array.result host says c.if-part-ne0.false (sym c.in_ok-stride.was ∙ c.stride_of.ensures) c.sized_array.ensures)

pub returns-in-None : goal.returns-in-None
returns-in-None c = λ t host says.
    open-says t c.args.part c.args.n c.in_ok-stride.stride c.args.child c.in-None.is host says c.if-part-ne0.false (sym c.in_ok-stride.was ∙ c.stride_of.ensures)
