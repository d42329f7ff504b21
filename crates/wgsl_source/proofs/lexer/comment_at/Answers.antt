use Rattle.std.proofs.Common.{List, ℕ, inr, subst, arith}
use Rattle.wgsl_source.specs.Blanks.{Comment}
use Rattle.wgsl_source.proofs.BlankLemmas.{block_comment}
use Rattle.wgsl_source.proofs.lexer.comment_at.Goals as goal

pub overflow_sub-result : goal.overflow_sub-result
overflow_sub-result c =
    let P : List ℕ → Type 0 = λ text. Comment text c.in-Some.left.now in
    let all = block_comment c.args.bytes.now c.in-Some.left.now c.args.start c.requires.begins (subst P c.behind.ensures c.in-Some.ensures) c.requires.within in
    omega (arith, all.0)

pub returns-in-Some-clause-later : goal.returns-in-Some-clause-later
returns-in-Some-clause-later c =
    let P : List ℕ → Type 0 = λ text. Comment text c.in-Some.left.now in
    let all = block_comment c.args.bytes.now c.in-Some.left.now c.args.start c.requires.begins (subst P c.behind.ensures c.in-Some.ensures) c.requires.within in
    omega (arith, all.0)

pub returns-in-Some-clause-is : goal.returns-in-Some-clause-is
returns-in-Some-clause-is c =
    let P : List ℕ → Type 0 = λ text. Comment text c.in-Some.left.now in
    let all = block_comment c.args.bytes.now c.in-Some.left.now c.args.start c.requires.begins (subst P c.behind.ensures c.in-Some.ensures) c.requires.within in
    inr (inr all.1)
