-- The words of a line: names, numbers and handles.
use Rattle.std.specs.Prelude.{◌≡◌, ℕ, ◌≤◌, ◌==◌, ◌&&◌, ◌||◌, Bool, false, List, [], ◌∷◌, length, drop}
use Rattle.std.specs.Char.{is_ascii_alphabetic, is_ascii_digit}
use Rattle.std.specs.List.{list_all}
use Rattle.std.specs.Str.Parse.{IsNumeral, digits_value}

abbrev pub begins_name : ℕ → Bool
begins_name c = is_ascii_alphabetic c || c == 95

abbrev pub continues_name : ℕ → Bool
continues_name c = begins_name c || is_ascii_digit c

-- an ASCII letter or `_`, then letters, digits and `_`
abbrev pub is_name : List ℕ → Bool
is_name [] = false
is_name (c ∷ cs) = begins_name c && list_all continues_name cs

-- 1 to 10 decimal digits
abbrev pub IsNumber : List ℕ → Type 0
IsNumber word = IsNumeral 10 word × (length word ≤ 10)

-- the number that they write
abbrev pub number : List ℕ → ℕ
number word = digits_value 10 word

-- a number up to 4294967295
abbrev pub IsCount : List ℕ → Type 0
IsCount word = IsNumber word × (number word ≤ 4294967295)

-- an `&`, then a number
abbrev pub IsHandle : List ℕ → Type 0
IsHandle [] = ⊥
IsHandle (c ∷ word) = (c ≡ 38) × IsNumber word

-- the number that stands behind the `&`
abbrev pub handle : List ℕ → ℕ
handle word = number (drop 1 word)
