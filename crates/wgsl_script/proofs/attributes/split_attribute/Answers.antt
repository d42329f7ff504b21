use Rattle.std.proofs.Common.{Some, None, sym, arith}
use Rattle.std.proofs.lemmas.Str.Pattern.{split_parts}
use Rattle.wgsl_script.specs.declared.attributes.Attribute.TheVariants.{Align, Size}
use Rattle.wgsl_script.proofs.AttributeWords.{begins_split, begins_keyword, found, no_align, no_size, no_keyword}
use Rattle.wgsl_script.proofs.attributes.split_attribute.Goals as goal

pub returns-in_err-front-clause-none : goal.returns-in_err-front-clause-none
returns-in_err-front-clause-none c = λ _ a rest b. begins_split c.args.word.now a rest b None c.in_err-front.ensures.cases

pub returns-in_err-keyword-clause-none : goal.returns-in_err-keyword-clause-none
returns-in_err-keyword-clause-none c =
    λ _ a rest b. let front = begins_split c.args.word.now a rest b (Some (c.in_ok-front.front, c.in_ok-front.rest)) c.in_ok-front.ensures.cases in
    begins_keyword c.in_ok-front.front.now a b.digits front.0 None c.in_err-keyword.ensures.cases

pub returns-in_err-count_of-in-text-clause-none : goal.returns-in_err-count_of-in-text-clause-none
returns-in_err-count_of-in-text-clause-none c =
    λ _ a rest b. let front = begins_split c.args.word.now a rest b (Some (c.in_ok-front.front, c.in_ok-front.rest)) c.in_ok-front.ensures.cases in
    let name = begins_keyword c.in_ok-front.front.now a b.digits front.0 (Some (c.in_ok-keyword.keyword, c.in_ok-keyword.n)) c.in_ok-keyword.ensures.cases in
    no_align c.in_ok-keyword.keyword.now c.in_ok-keyword.n.now c.in-text.is c.in_err-count_of-in-text.ensures a b.digits name.0 name.1 b.is_count

pub returns-in_err-count_of-in-text-2-clause-none : goal.returns-in_err-count_of-in-text-2-clause-none
returns-in_err-count_of-in-text-2-clause-none c =
    λ _ a rest b. let front = begins_split c.args.word.now a rest b (Some (c.in_ok-front.front, c.in_ok-front.rest)) c.in_ok-front.ensures.cases in
    let name = begins_keyword c.in_ok-front.front.now a b.digits front.0 (Some (c.in_ok-keyword.keyword, c.in_ok-keyword.n)) c.in_ok-keyword.ensures.cases in
    no_size c.in_ok-keyword.keyword.now c.in_ok-keyword.n.now c.in-text-2.is c.in_err-count_of-in-text-2.ensures a b.digits name.0 name.1 b.is_count

pub returns-in_ok-count_of-in-text-clause-some : goal.returns-in_ok-count_of-in-text-clause-some
returns-in_ok-count_of-in-text-clause-some c =
    let at_end = split_parts 41 c.args.word.now (Some (c.in_ok-front.front, c.in_ok-front.rest)) c.in_ok-front.ensures.cases (omega arith) in
    let at_start = split_parts 40 c.in_ok-front.front.now (Some (c.in_ok-keyword.keyword, c.in_ok-keyword.n)) c.in_ok-keyword.ensures.cases (omega arith) in
    found (Align c.in_ok-count_of-in-text.field-0) c.args.word.now c.in_ok-front.front.now c.in_ok-front.rest.now c.in_ok-keyword.keyword.now c.in_ok-keyword.n.now at_end.0 at_start.0 c.in-text.is c.in_ok-count_of-in-text.ensures.0 (sym c.in_ok-count_of-in-text.ensures.1)

pub returns-in_ok-count_of-in-text-2-clause-some : goal.returns-in_ok-count_of-in-text-2-clause-some
returns-in_ok-count_of-in-text-2-clause-some c =
    let at_end = split_parts 41 c.args.word.now (Some (c.in_ok-front.front, c.in_ok-front.rest)) c.in_ok-front.ensures.cases (omega arith) in
    let at_start = split_parts 40 c.in_ok-front.front.now (Some (c.in_ok-keyword.keyword, c.in_ok-keyword.n)) c.in_ok-keyword.ensures.cases (omega arith) in
    found (Size c.in_ok-count_of-in-text-2.field-0) c.args.word.now c.in_ok-front.front.now c.in_ok-front.rest.now c.in_ok-keyword.keyword.now c.in_ok-keyword.n.now at_end.0 at_start.0 c.in-text-2.is c.in_ok-count_of-in-text-2.ensures.0 (sym c.in_ok-count_of-in-text-2.ensures.1)

pub returns-in_default-clause-none : goal.returns-in_default-clause-none
returns-in_default-clause-none c =
    λ _ a rest b. let front = begins_split c.args.word.now a rest b (Some (c.in_ok-front.front, c.in_ok-front.rest)) c.in_ok-front.ensures.cases in
    let name = begins_keyword c.in_ok-front.front.now a b.digits front.0 (Some (c.in_ok-keyword.keyword, c.in_ok-keyword.n)) c.in_ok-keyword.ensures.cases in
    no_keyword c.in_ok-keyword.keyword.now c.in_default.not-text c.in_default.not-text-2 a name.0
