use Rattle.std.proofs.Common.{List, ℕ, subst, sym}
use Rattle.wgsl_c.specs.Expressions.{IsTypeText}
use Rattle.wgsl_c.proofs.Tables.{answered}
use Rattle.wgsl_c.proofs.expressions.wgsl_expression_type.Goals as goal

pub returns-in-Ok-clause-answer : goal.returns-in-Ok-clause-answer
returns-in-Ok-clause-answer c =
    let P : List ℕ → Type 0 = λ given. IsTypeText c.args.module.now c.args.expression.now c.args.stage c.args.flags given in
    answered P c.as_bytes.result.now c.args.out.now c.given.new.out c.in-Ok.faults c.given.result (subst P (sym c.as_bytes.ensures.value) c.in-Ok.ensures.found) c.given.ensures.answer c.given.ensures.left
