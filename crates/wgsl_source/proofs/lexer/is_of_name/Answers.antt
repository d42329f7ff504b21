use Rattle.std.proofs.Common.{◌≡◌, false, List, ℕ, inl, inr, subst}
use Rattle.std.proofs.lemmas.Bool.{eqb-true}
use Rattle.wgsl_source.specs.Bytes.{wide_blanks}
use Rattle.wgsl_source.specs.Blanks.{begins_with_one}
use Rattle.wgsl_source.proofs.BlankLemmas.{plain_at, lead_at}
use Rattle.wgsl_source.proofs.lexer.is_of_name.Goals as goal

pub returns-in-Letter : goal.returns-in-Letter
returns-in-Letter c = λ _. plain_at c.args.bytes.now c.args.at c.class_of.result c.requires c.class_of.ensures (inl c.in-Letter.is)

pub returns-in-Digit : goal.returns-in-Digit
returns-in-Digit c = λ _. plain_at c.args.bytes.now c.args.at c.class_of.result c.requires c.class_of.ensures (inr (inl c.in-Digit.is))

pub returns-in-Lead : goal.returns-in-Lead
returns-in-Lead c = λ found.
    let P : List ℕ → Type 0 = λ text. begins_with_one wide_blanks text ≡ false in
    lead_at c.args.bytes.now c.args.at c.class_of.result c.requires c.class_of.ensures c.in-Lead.is (subst P c.behind.ensures (c.wide_blank_len.ensures.none (eqb-true c.wide_blank_len.result 0 found)))
