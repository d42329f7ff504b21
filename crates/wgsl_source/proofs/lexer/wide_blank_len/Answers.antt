use lib.Utf8.{encode}
use Rattle.std.proofs.Common.{[], ◌∷◌, refl, sym, ◌∙◌, arith}
use Rattle.wgsl_source.proofs.BlankLemmas.{begun, none_of_five}
use Rattle.wgsl_source.proofs.lexer.wide_blank_len.Goals as goal

pub returns-then-starts_with-clause-blank : goal.returns-then-starts_with-clause-blank
unfolding encode
returns-then-starts_with-clause-blank c = λ _. (0x85, (8, omega arith, refl), begun c.args.rest.now (0xc2 ∷ 0x85 ∷ []) c.starts_with.result c.starts_with.ensures.value c.if-starts_with.true)

pub returns-then-starts_with-2-clause-blank : goal.returns-then-starts_with-2-clause-blank
unfolding encode
returns-then-starts_with-2-clause-blank c = λ _. (0x200e, (2, omega arith, refl), begun c.args.rest.now (0xe2 ∷ 0x80 ∷ 0x8e ∷ []) c.starts_with-else-starts_with.result c.starts_with-else-starts_with.ensures.value c.if-starts_with-2.true)

pub returns-then-starts_with-3-clause-blank : goal.returns-then-starts_with-3-clause-blank
unfolding encode
returns-then-starts_with-3-clause-blank c = λ _. (0x200f, (3, omega arith, refl), begun c.args.rest.now (0xe2 ∷ 0x80 ∷ 0x8f ∷ []) c.starts_with-else-starts_with-2.result c.starts_with-else-starts_with-2.ensures.value c.if-starts_with-3.true)

pub returns-then-starts_with-4-clause-blank : goal.returns-then-starts_with-4-clause-blank
unfolding encode
returns-then-starts_with-4-clause-blank c = λ _. (0x2028, (9, omega arith, refl), begun c.args.rest.now (0xe2 ∷ 0x80 ∷ 0xa8 ∷ []) c.starts_with-else-starts_with-3.result c.starts_with-else-starts_with-3.ensures.value c.if-starts_with-4.true)

pub returns-then-starts_with-5-clause-blank : goal.returns-then-starts_with-5-clause-blank
unfolding encode
returns-then-starts_with-5-clause-blank c = λ _. (0x2029, (10, omega arith, refl), begun c.args.rest.now (0xe2 ∷ 0x80 ∷ 0xa9 ∷ []) c.starts_with-else-starts_with-4.result c.starts_with-else-starts_with-4.ensures.value c.if-starts_with-5.true)

pub returns-else-starts_with-5-clause-none : goal.returns-else-starts_with-5-clause-none
unfolding encode
returns-else-starts_with-5-clause-none c = λ _.
    none_of_five _ _ _ _ _
    (sym c.starts_with.ensures.value ∙ c.if-starts_with.false)
    (sym c.starts_with-else-starts_with.ensures.value ∙ c.if-starts_with-2.false)
    (sym c.starts_with-else-starts_with-2.ensures.value ∙ c.if-starts_with-3.false)
    (sym c.starts_with-else-starts_with-3.ensures.value ∙ c.if-starts_with-4.false)
    (sym c.starts_with-else-starts_with-4.ensures.value ∙ c.if-starts_with-5.false)
