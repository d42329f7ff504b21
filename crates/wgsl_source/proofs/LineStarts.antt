-- Where lines begin in the first bytes of a text, a byte at a time.
use Rattle.std.proofs.Common.{◌≡◌, ℕ, ◌+◌, ◌<◌, ◌==◌, List, [], ◌∷◌, ◌++◌, length, take, get_or, if◌then◌else◌, arith}
use Rattle.std.proofs.lemmas.Grind.{common_steps}
use Rattle.std.proofs.lemmas.List.{take_more}
use Rattle.wgsl_source.specs.Places.{starts_behind, line_starts}

pub starts_behind-push : (k : ℕ) (xs : List ℕ) (b : ℕ) → starts_behind k (xs ++ (b ∷ [])) ≡ starts_behind k xs ++ starts_behind (k + length xs) (b ∷ [])
starts_behind-push k [] b = grind (arith, common_steps)
starts_behind-push k (x ∷ xs) b = grind (arith, common_steps, starts_behind-push (k + 1) xs b)

-- one more byte, which may be a line feed
pub line_starts-more : (text : List ℕ) (at : ℕ) → at < length text → line_starts (take (at + 1) text) ≡ (if get_or text at 0 == 10 then line_starts (take at text) ++ ((at + 1) ∷ []) else line_starts (take at text))
line_starts-more text at within =
    let e = take_more text at 0 within in
    let l : length (take at text) ≡ at = grind (arith, common_steps) in
    let p = starts_behind-push 0 (take at text) (get_or text at 0) in
    grind (arith, common_steps)
