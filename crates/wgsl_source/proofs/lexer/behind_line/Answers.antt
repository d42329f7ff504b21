use Rattle.std.proofs.Common.{◌≡◌, ◌++◌, List, ℕ, take, subst, ap, ◌∙◌}
use Rattle.std.proofs.lemmas.List.{take-append-drop}
use Rattle.wgsl_source.specs.Blanks.{Line}
use Rattle.wgsl_source.proofs.BlankLemmas.{passed_bytes}
use Rattle.wgsl_source.proofs.lexer.behind_line.Goals as goal

pub loop-word-preserved : goal.loop-word-preserved
loop-word-preserved c = λ rest line.
    let left = c.loop-word.left.now in
    let word = c.in-Some.word.now in
    let behind = c.in-Some.behind.now in
    let P : List ℕ → Type 0 = λ text. Line text rest in
    let h = c.in-Some.ensures.cases in
    let whole : word ++ behind ≡ left = ap (λ (w : List ℕ). w ++ behind) h.0 ∙ ap (λ (b : List ℕ). take 8 left ++ b) h.1 ∙ take-append-drop 8 left in
    c.loop-word.invariant rest (subst P whole (passed_bytes word behind rest (c.may_break.ensures c.if-may_break.false) line))
