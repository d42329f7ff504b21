use Rattle.std.proofs.Common.{ℕ, ◌+◌, inl, inr, arith}
use Rattle.wgsl_source.proofs.BlankLemmas.{brace_at, no_blank_from, no_blank_more}
use Rattle.wgsl_source.proofs.lexer.placeholder_at.Goals as goal

pub name_end-end-requires-clause-begins : goal.name_end-end-requires-clause-begins
name_end-end-requires-clause-begins c = brace_at c.args.bytes.now (c.args.start + 1) c.requires.within (inl c.requires.brace)

pub returns-clause-is : goal.returns-clause-is
returns-clause-is c = no_blank_from c.args.bytes.now c.args.start c.name_end-end.result c.requires.begins c.name_end-end.ensures.no_blank

pub returns-then-bytes-end-eq125-clause-is : goal.returns-then-bytes-end-eq125-clause-is
returns-then-bytes-end-eq125-clause-is c =
    let bytes = c.args.bytes.now in
    let end : ℕ = c.name_end-end.result in
    no_blank_more bytes c.args.start end (no_blank_from bytes c.args.start end c.requires.begins c.name_end-end.ensures.no_blank)
    (brace_at bytes end (omega arith) (inr c.if-bytes-end-eq125.true))
