use Rattle.std.proofs.Common.{◌≡◌, ◌++◌, codes, arith}
use Rattle.std.proofs.lemmas.Grind.{common_steps}
use Rattle.wgsl_source.proofs.NameLemmas.{behind_vec, behind_mat}
use Rattle.wgsl_source.proofs.names.language_name.Goals as goal

pub returns-in-Some-strip_prefix-clause-each : goal.returns-in-Some-strip_prefix-clause-each
returns-in-Some-strip_prefix-clause-each c = λ p named.
    let e : c.args.name.now ≡ codes "vec" ++ c.in-Some-strip_prefix.rest.now = grind (arith, common_steps, c.in-Some-strip_prefix.ensures.cases) in
    behind_vec c.args.name.now c.in-Some-strip_prefix.rest.now c.vector_named.result e (λ s is. cc (c.in_default.ensures.each s is)) c.vector_named.ensures.each p named

pub returns-in_ok-strip_prefix-in-None-clause-each :
    goal.returns-in_ok-strip_prefix-in-None-clause-each
returns-in_ok-strip_prefix-in-None-clause-each c = λ p named.
    let rest = c.in_ok-strip_prefix-in-None.field-0.now in
    let e : c.args.name.now ≡ codes "mat" ++ rest = grind (arith, common_steps, c.in_ok-strip_prefix-in-None.ensures.cases) in
    behind_mat c.args.name.now rest c.matrix_named.result e (λ s is. cc (c.in_default.ensures.each s is)) c.matrix_named.ensures.each p named
