use Rattle.std.proofs.Common.{List, inl, map, subst, sym}
use Rattle.wgsl_source.specs.Blanks.{IsCut}
use Rattle.wgsl_source.specs.Blanks.IsCut.{token}
use Rattle.wgsl_source.specs.Readings.{extent_in}
use Rattle.wgsl_source.specs.declared.fault.Fault.{Fault}
use Rattle.wgsl_source.specs.declared.module.Extent.{Extent}
use Rattle.wgsl_source.proofs.BlankLemmas.{plain_at}
use Rattle.wgsl_source.proofs.lexer.Lexed.take.Goals as goal

pub name_end-end-requires-clause-begins : goal.name_end-end-requires-clause-begins
name_end-end-requires-clause-begins c = plain_at c.args.bytes.now c.args.start c.args.class c.requires.within c.requires.class (inl c.in-Letter.is)

pub returns-in-Letter-clause-cut : goal.returns-in-Letter-clause-cut
returns-in-Letter-clause-cut c = λ cut.
    let bytes = c.args.bytes.now in
    let end = c.name_end-end.result in
    let P : List Extent → Type 0 = λ ts. IsCut bytes ts c.args.self.now.faults.items end in
    let Q : List Fault → Type 0 = λ fs. IsCut bytes (map extent_in c.add_token.new.self.tokens.items) fs end in
    let more = token cut c.name_end-end.ensures.later c.name_end-end.ensures.within c.name_end-end.ensures.no_blank in
    subst Q (sym c.in_ok-add_token.ensures.faults) (subst P (sym c.in_ok-add_token.ensures.tokens) more)
