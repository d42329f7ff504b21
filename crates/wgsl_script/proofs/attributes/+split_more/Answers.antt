use Rattle.std.proofs.Common.{refl, sym, arith}
use Rattle.std.proofs.lemmas.Str.Pattern.{starts_char}
use Rattle.wgsl_script.proofs.AttributeWords.{more_some, bad_front, bad_kind, bad_rest}
use Rattle.wgsl_script.proofs.attributes.+split_more.Goals as goal

pub returns-in_err-attribute-clause-none : goal.returns-in_err-attribute-clause-none
returns-in_err-attribute-clause-none t c =
    let starts = starts_char 64 c.args.word.now c.starts_with.result c.starts_with.ensures.cases (omega arith) (omega arith) in
    λ _ more rest begin. bad_front c.args.word.now c.args.given (starts.0 c.if-not-starts_with.false) (c.in_err-attribute.ensures.none refl) more rest begin

pub returns-in_err-with-clause-none : goal.returns-in_err-with-clause-none
returns-in_err-with-clause-none t c =
    λ _ more rest begin. bad_kind c.args.word.now c.in_ok-attribute.attribute c.in_ok-attribute.rest.now c.args.given c.in_ok-attribute.ensures.some (sym c.in_err-with.ensures) more rest begin

pub returns-clause-some : goal.returns-clause-some
returns-clause-some t c =
    more_some c.args.word.now c.in_ok-attribute.attribute c.in_ok-attribute.rest.now c.args.given c.in_ok-with.field-0 c.in_ok-attribute.ensures.some (sym c.in_ok-with.ensures) c.split_more.result c.split_more.ensures.some

pub returns-clause-none : goal.returns-clause-none
returns-clause-none t c =
    λ none more rest begin. bad_rest c.args.word.now c.in_ok-attribute.attribute c.in_ok-attribute.rest.now c.args.given c.in_ok-with.field-0 c.in_ok-attribute.ensures.some (sym c.in_ok-with.ensures) (c.split_more.ensures.none none) more rest begin
