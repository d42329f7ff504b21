-- Bytes as hexadecimal digits in lower case.
use Rattle.std.specs.Prelude.{ℕ, ◌/◌, ◌%◌, List, [], ◌∷◌, ◌++◌}
use Rattle.std.specs.Char.{digit_char}

-- the two digits of a byte, the higher one first: `0` to `9`, then `a` to `f`
abbrev pub digits_of : ℕ → List ℕ
digits_of byte = digit_char (byte / 16) ∷ digit_char (byte % 16) ∷ []

-- the digits of bytes, in their order
abbrev pub hexadecimal : List ℕ → List ℕ
hexadecimal [] = []
hexadecimal (byte ∷ bytes) = digits_of byte ++ hexadecimal bytes
