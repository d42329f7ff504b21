use Rattle.std.proofs.Common.{List, ℕ, subst, arith}
use Rattle.wgsl_source.specs.Blanks.{Line}
use Rattle.wgsl_source.proofs.BlankLemmas.{hash_line}
use Rattle.wgsl_source.proofs.lexer.hash_line_at.Goals as goal

pub overflow_sub-result : goal.overflow_sub-result
overflow_sub-result c =
    let P : List ℕ → Type 0 = λ text. Line text c.behind_line-left.result.now in
    let all = hash_line c.args.bytes.now c.behind_line-left.result.now c.args.start c.requires.within c.requires.hash (subst P c.behind.ensures c.behind_line-left.ensures) in
    omega (arith, all.0)

pub returns-clause-later : goal.returns-clause-later
returns-clause-later c =
    let P : List ℕ → Type 0 = λ text. Line text c.behind_line-left.result.now in
    let all = hash_line c.args.bytes.now c.behind_line-left.result.now c.args.start c.requires.within c.requires.hash (subst P c.behind.ensures c.behind_line-left.ensures) in
    omega (arith, all.0)

pub returns-clause-is : goal.returns-clause-is
returns-clause-is c =
    let P : List ℕ → Type 0 = λ text. Line text c.behind_line-left.result.now in
    let all = hash_line c.args.bytes.now c.behind_line-left.result.now c.args.start c.requires.within c.requires.hash (subst P c.behind.ensures c.behind_line-left.ensures) in
    all.1
