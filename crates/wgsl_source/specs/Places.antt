-- Where the lines of a text begin.
use Rattle.std.specs.Prelude.{ℕ, ◌+◌, ◌==◌, List, [], ◌∷◌, if◌then◌else◌}

-- behind each line feed of the bytes, the first of which is the byte of this number
abbrev pub starts_behind : ℕ → List ℕ → List ℕ
starts_behind at [] = []
starts_behind at (b ∷ bs) =
    if b == 10 then (at + 1) ∷ starts_behind (at + 1) bs else starts_behind (at + 1) bs

-- a line begins at the first byte, and behind each line feed
abbrev pub line_starts : List ℕ → List ℕ
line_starts text = 0 ∷ starts_behind 0 text
