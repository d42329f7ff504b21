-- Parts of a text.
use Rattle.std.specs.Prelude.{ℕ, Bool, ◌&&◌, ◌||◌, nat_le, nat_lt, List, [], length, slice_index, slice_range, if◌then◌else◌}

-- whether a character begins at this byte, or the text ends there
abbrev pub is_boundary : List ℕ → ℕ → Bool
is_boundary text at = nat_le at (length text) && (nat_lt (slice_index text at) 128 || nat_le 192 (slice_index text at))

-- the bytes from one to another; none where these cut a character
abbrev pub cut_of : List ℕ → ℕ → ℕ → List ℕ
cut_of text start end =
    if nat_le start end && (is_boundary text start && is_boundary text end) then slice_range text start end else []
