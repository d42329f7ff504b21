use Rattle.std.proofs.Common.{◌≡◌, ℕ, ◌+◌, ◌<◌, ◌∙◌, List, length, get_or, ap, arith}
use Rattle.wgsl_source.proofs.GroupLemmas.{found, not_found, nothing_first}
use Rattle.wgsl_source.proofs.identifier.is_in.Goals as goal

pub returns-in-Some : goal.returns-in-Some
returns-in-Some c =
    let bytes = c.as_bytes.ensures.value in
    let h = c.in-Some.ensures in
    let some : 0 < length c.args.word.now = omega (arith, c.in-len1-up.len_at_least, ap (λ (w : List ℕ). length w) bytes) in
    let first : get_or c.args.word.now 0 0 ≡ 97 + c.from.result = omega (arith, h.0, h.1, c.from.ensures, ap (λ (w : List ℕ). get_or w 0 0) bytes) in
    c.is_in_group.ensures ∙ found 97 c.from.result c.args.word.now c.args.groups.now c.requires some first

pub returns-in-None : goal.returns-in-None
returns-in-None c =
    let less : get_or c.args.word.now 0 0 < 97 = omega (arith, c.in-None.ensures, ap (λ (w : List ℕ). get_or w 0 0) c.as_bytes.ensures.value) in
    not_found 97 c.args.word.now c.args.groups.now c.requires less

pub returns-in-empty : goal.returns-in-empty
returns-in-empty c =
    let none : length c.args.word.now < 1 = omega (arith, c.in-empty.len_below, ap (λ (w : List ℕ). length w) c.as_bytes.ensures.value) in
    not_found 97 c.args.word.now c.args.groups.now c.requires (nothing_first c.args.word.now none)
