-- What a byte of a source in UTF-8 is, or begins (WGSL: blankspace and line breaks; identifiers).
use Rattle.std.specs.Prelude.{ℕ, Bool, not, ◌==◌, ◌||◌, List, [], ◌∷◌, slice_index, if◌then◌else◌, encode_utf8}
use Rattle.std.specs.Char.{is_ascii, is_ascii_alphabetic, is_ascii_digit}
use Rattle.std.specs.Int.{is_in_range}
use Rattle.std.specs.List.{list_any}
use Rattle.wgsl_source.specs.declared.bytes.Class.{Class}
use Rattle.wgsl_source.specs.declared.bytes.Class.TheVariants.{Letter, Digit, Lead, Symbol, Blank, Break}

-- line feed, vertical tab, form feed and carriage return
abbrev pub is_line_break : ℕ → Bool
is_line_break byte = is_in_range 0x0a 0x0d byte

-- horizontal tab and space
abbrev pub is_space : ℕ → Bool
is_space byte = (byte == 0x09) || (byte == 0x20)

-- the blank characters past ASCII: the next line, the marks of direction, and the separators of lines and of paragraphs
abbrev pub wide_blanks : List ℕ
wide_blanks = 0x85 ∷ 0x200e ∷ 0x200f ∷ 0x2028 ∷ 0x2029 ∷ []

-- whether one of them begins with this byte
abbrev pub begins_wide_blank : ℕ → Bool
begins_wide_blank byte = list_any (λ c. slice_index (encode_utf8 c) 0 == byte) wide_blanks

-- the letters of ASCII and `_`, and all past ASCII
abbrev pub is_letter : ℕ → Bool
is_letter byte = is_ascii_alphabetic byte || (byte == 0x5f) || not (is_ascii byte)

-- the first class that a byte is of; what is of no other is a symbol
abbrev pub class_of : ℕ → Class
class_of byte =
    if is_line_break byte then Break
    else if is_space byte then Blank
    else if is_ascii_digit byte then Digit
    else if begins_wide_blank byte then Lead
    else if is_letter byte then Letter
    else Symbol

-- whether a line break may begin with a byte: one of ASCII, the next line, or a separator
abbrev pub may_begin_line_break : ℕ → Bool
may_begin_line_break byte = is_line_break byte || begins_wide_blank byte

-- whether a blank character may begin with a byte
abbrev pub may_begin_blank : ℕ → Bool
may_begin_blank byte = is_space byte || may_begin_line_break byte
