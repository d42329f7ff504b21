use Rattle.std.proofs.Common.{refl}
use Rattle.wgsl_script.proofs.Templates.{typed, other_name, other_inner, other_type, no_scalar}
use Rattle.wgsl_script.proofs.type_words.plain_of.Goals as goal

pub returns-in_err-template_of-in-Some-clause-none : goal.returns-in_err-template_of-in-Some-clause-none
returns-in_err-template_of-in-Some-clause-none c =
    λ _ plain _. other_name c.args.word.now c.in-Some.name.now c.in-Some.scalar.now c.in-Some.ensures.some (c.in_err-template_of-in-Some.ensures.none refl) plain

pub returns-in_err-scalar_of-in-Some-clause-none : goal.returns-in_err-scalar_of-in-Some-clause-none
returns-in_err-scalar_of-in-Some-clause-none c =
    λ _ plain _. other_inner c.args.word.now c.in-Some.name.now c.in-Some.scalar.now c.in-Some.ensures.some (c.in_err-scalar_of-in-Some.ensures.none refl) plain

pub returns-in_ok-scalar_of-in-Some-clause-some : goal.returns-in_ok-scalar_of-in-Some-clause-some
returns-in_ok-scalar_of-in-Some-clause-some c =
    typed c.args.word.now c.in-Some.name.now c.in-Some.scalar.now c.in_ok-template_of-in-Some.field-0 c.in_ok-scalar_of-in-Some.field-0 c.in-Some.ensures.some c.in_ok-template_of-in-Some.ensures.some c.in_ok-scalar_of-in-Some.ensures.some c.composite.result c.composite.ensures.some

pub returns-in_ok-scalar_of-in-Some-clause-none : goal.returns-in_ok-scalar_of-in-Some-clause-none
returns-in_ok-scalar_of-in-Some-clause-none c =
    λ none plain is. other_type c.args.word.now c.in-Some.name.now c.in-Some.scalar.now c.in_ok-template_of-in-Some.field-0 c.in_ok-scalar_of-in-Some.field-0 c.in-Some.ensures.some c.in_ok-template_of-in-Some.ensures.some c.in_ok-scalar_of-in-Some.ensures.some (c.composite.ensures.none none) plain is

pub returns-in_err-scalar_of-in-None-clause-none : goal.returns-in_err-scalar_of-in-None-clause-none
returns-in_err-scalar_of-in-None-clause-none c =
    λ _ plain _. no_scalar c.args.word.now (c.in-None.ensures.none refl) (c.in_err-scalar_of-in-None.ensures.none refl) plain
