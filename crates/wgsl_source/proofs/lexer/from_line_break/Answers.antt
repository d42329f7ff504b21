use Rattle.std.proofs.Common.{List, ℕ, subst, arith}
use Rattle.wgsl_source.specs.Blanks.{Line}
use Rattle.wgsl_source.proofs.BlankLemmas.{line_breaks_here, line_ends_here, line_goes_on}
use Rattle.wgsl_source.proofs.lexer.from_line_break.Goals as goal

pub returns-then-begins_line_break : goal.returns-then-begins_line_break
returns-then-begins_line_break c =
    let left = c.loop-left.left.now in
    c.loop-left.invariant left (line_breaks_here left c.begins_line_break.result c.begins_line_break.ensures c.if-begins_line_break.true)

pub loop-left-preserved : goal.loop-left-preserved
loop-left-preserved c = λ rest line.
    let left = c.loop-left.left.now in
    let P : List ℕ → Type 0 = λ text. Line text rest in
    c.loop-left.invariant rest (line_goes_on left rest c.begins_line_break.result (omega arith) c.begins_line_break.ensures c.if-begins_line_break.false (subst P c.behind-left.ensures line))

pub returns : goal.returns
returns c = let left = c.loop-left.left.now in c.loop-left.invariant left (line_ends_here left (omega arith))
