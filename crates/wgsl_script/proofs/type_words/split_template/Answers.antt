use Rattle.std.proofs.Common.{◌++◌, ◌∷◌, Some, None, arith}
use Rattle.std.proofs.lemmas.Str.Pattern.{strip_suffix_char}
use Rattle.wgsl_script.proofs.Templates.{front_of, split_some, split_none}
use Rattle.wgsl_script.proofs.type_words.split_template.Goals as goal

pub returns-in_err-strip_suffix-clause-none : goal.returns-in_err-strip_suffix-clause-none
returns-in_err-strip_suffix-clause-none c =
    λ _ name inner t. strip_suffix_char 62 c.args.word.now None c.in_err-strip_suffix.ensures.cases (omega arith) (name ++ (60 ∷ inner)) (front_of c.args.word.now name inner t)

pub returns-clause-some : goal.returns-clause-some
returns-clause-some c =
    split_some c.args.word.now c.in_ok-strip_suffix.field-0.now c.split_once.result (strip_suffix_char 62 c.args.word.now (Some c.in_ok-strip_suffix.field-0) c.in_ok-strip_suffix.ensures.cases (omega arith)) c.split_once.ensures.cases

pub returns-clause-none : goal.returns-clause-none
returns-clause-none c =
    split_none c.args.word.now c.in_ok-strip_suffix.field-0.now c.split_once.result (strip_suffix_char 62 c.args.word.now (Some c.in_ok-strip_suffix.field-0) c.in_ok-strip_suffix.ensures.cases (omega arith)) c.split_once.ensures.cases
