use Rattle.std.proofs.Common.{sym, ◌∙◌}
use Rattle.std.proofs.lemmas.Bool.{ne_eqb}
use Rattle.wgsl_value_ops.proofs.ColumnAnswers.{as_many_rows-test, matrix-known, not_as_many_columns}
use Rattle.wgsl_value_ops.proofs.compwise.have_one_shape.Goals as goal

pub returns-then-c : goal.returns-then-c
returns-then-c c =
    let k = matrix-known c.args.left.now c.requires.left in
    let l = matrix-known c.args.right.now c.requires.right in
    rw (c.r.ensures, c.r-then-c.ensures) (as_many_rows-test c.args.left.now c.args.right.now k l (sym c.c.ensures ∙ c.if-c.true ∙ c.c-2.ensures))

pub returns-else-c : goal.returns-else-c
returns-else-c c =
    let k = matrix-known c.args.left.now c.requires.left in
    let l = matrix-known c.args.right.now c.requires.right in
    ne_eqb _ _ c.if-c.false ∙ sym (not_as_many_columns c.args.left.now c.args.right.now k l (λ e. c.if-c.false (c.c.ensures ∙ e ∙ sym c.c-2.ensures)))
