use Rattle.std.proofs.Common.{◌≡◌, false, List, ℕ, inl, inr, subst, arith}
use Rattle.wgsl_source.specs.Blanks.{begins_with_one}
use Rattle.wgsl_source.specs.Bytes.{wide_blanks}
use Rattle.wgsl_source.proofs.BlankLemmas.{plain_at, rest_at, blank_at}
use Rattle.wgsl_source.proofs.lexer.rare_at.Goals as goal

pub number_at-requires-clause-begins : goal.number_at-requires-clause-begins
number_at-requires-clause-begins c = plain_at c.args.bytes.now c.args.start c.args.class c.requires.within c.requires.class (inr (inl c.in-Digit.is))

pub name_end-requires : goal.name_end-requires
name_end-requires c =
    let P : List ℕ → Type 0 = λ text. begins_with_one wide_blanks text ≡ false in
    record {
      within = c.requires.within;
      begins =
          rest_at c.args.bytes.now c.args.start c.args.class c.requires.within c.requires.class c.requires.no_blank
          (subst P c.behind.ensures (c.wide_blank_len-blank.ensures.none (omega arith)));
    }

pub returns-then-blank-gt0-clause-is : goal.returns-then-blank-gt0-clause-is
returns-then-blank-gt0-clause-is c =
    blank_at c.args.bytes.now c.behind.result.now c.args.start c.wide_blank_len-blank.result c.behind.ensures (c.wide_blank_len-blank.ensures.blank c.if-blank-gt0.true)
