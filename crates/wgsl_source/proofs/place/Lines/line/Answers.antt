use Rattle.std.proofs.Common.{arith}
use Rattle.std.proofs.lemmas.Str.Pattern.{split_parts, strip_suffix_char}
use Rattle.wgsl_source.proofs.LineEnds.{lacks_feed, all_from_zero}
use Rattle.wgsl_source.proofs.place.Lines.line.Goals as goal

pub returns-in-Some : goal.returns-in-Some
returns-in-Some c =
    let parts = split_parts 10 c.unwrap_or-whole.result.now c.split_once.result c.split_once.ensures.cases (omega arith) in
    let line = rw c.in-Some.is at parts in
    let cut = strip_suffix_char 13 c.in-Some.line.now c.strip_suffix.result c.strip_suffix.ensures.cases (omega arith) in
    all_from_zero _ (rw (← c.unwrap_or.ensures) at (lacks_feed c.in-Some.line c.strip_suffix.result cut line.1))

pub returns-in-None : goal.returns-in-None
returns-in-None c =
    let parts = split_parts 10 c.unwrap_or-whole.result.now c.split_once.result c.split_once.ensures.cases (omega arith) in
    all_from_zero _ (rw c.in-None.is at parts)
