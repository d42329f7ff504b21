use Rattle.std.proofs.Common.{◌≡◌, ◌+◌, ◌-◌, List, ℕ, drop, length, length-drop, ap, subst, ◌∙◌, arith}
use Rattle.wgsl_source.specs.Blanks.{HasNoBlank}
use Rattle.wgsl_source.proofs.BlankLemmas.{no_blank_from, no_blank_behind}
use Rattle.wgsl_source.proofs.lexer.number_at.Goals as goal

pub returns-clause-is : goal.returns-clause-is
returns-clause-is c =
    let bytes = c.args.bytes.now in
    let start : ℕ = c.args.start in
    let rest = c.behind.result.now in
    let left = c.behind_number-left.result.now in
    let end : ℕ = length bytes - length left in
    let P : List ℕ → Type 0 = λ text. HasNoBlank text 0 (length rest - length left) in
    let Q : ℕ → Type 0 = λ n. HasNoBlank (drop (start + 1) bytes) 0 n in
    let l : length rest ≡ length bytes - (start + 1) = ap length c.behind.ensures ∙ length-drop (start + 1) bytes in
    let same : length rest - length left ≡ end - (start + 1) = omega (arith, l, c.behind_number-left.ensures.within) in
    let behind = subst Q same (subst P c.behind.ensures c.behind_number-left.ensures.no_blank) in
    no_blank_from bytes start end c.requires.begins (no_blank_behind bytes (start + 1) end (omega (arith, l, c.behind_number-left.ensures.within)) behind)
