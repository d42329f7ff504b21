-- Numbers in bytes, the lowest byte first (WGSL: internal layout of values).
use Rattle.std.specs.Prelude.{ℕ, zero, suc, ◌+◌, ◌*◌, ◌^◌, Option, Some, None, Bool, true, List, [], ◌∷◌, ◌++◌, take, drop, length, slice_index, nat_le, nat_lt, ◌==◌, ◌&&◌, ◌||◌, if◌then◌else◌}
use Rattle.std.specs.Int.{bytes_low_first}
use Rattle.std.specs.List.{list_all}
use Rattle.wgsl_nodes.specs.declared.places.Place.{Place}

-- ---- kinds

abbrev pub has_4_bytes : ℕ → Bool
has_4_bytes kind = (kind == 1 || (kind == 2 || kind == 3)) || (kind == 257 || kind == 258)

abbrev pub has_8_bytes : ℕ → Bool
has_8_bytes kind = kind == 5 || (kind == 6 || kind == 7)

-- how many bytes a number of the kind has: f16 has 2; 0 of what is no kind
abbrev pub width_of : ℕ → ℕ
width_of kind = if has_4_bytes kind then 4 else (if has_8_bytes kind then 8 else (if kind == 4 then 2 else 0))

abbrev pub is_width : ℕ → Bool
is_width width = width == 2 || (width == 4 || width == 8)

-- ---- numbers in bytes

-- the number that `width` bytes are, from `at` on
abbrev pub number_at : List ℕ → ℕ → ℕ → ℕ
number_at bytes at zero = 0
number_at bytes at (suc width) = slice_index bytes at + 256 * number_at bytes (at + 1) width

-- n of them side by side
abbrev pub numbers_at : List ℕ → ℕ → ℕ → ℕ → List ℕ
numbers_at bytes at width zero = []
numbers_at bytes at width (suc n) = number_at bytes at width ∷ numbers_at bytes (at + width) width n

-- the bytes with others from `at` on
abbrev pub overwritten : List ℕ → ℕ → List ℕ → List ℕ
overwritten bytes at others = take at bytes ++ (others ++ drop (at + length others) bytes)

-- the bytes with numbers side by side, of `width` bytes each
abbrev pub written_row : List ℕ → ℕ → ℕ → List ℕ → List ℕ
written_row bytes at width [] = bytes
written_row bytes at width (n ∷ ns) = written_row (overwritten bytes at (bytes_low_first 0 width n)) (at + width) width ns

-- a number of so many bytes has no more bits
abbrev pub fits_in : ℕ → ℕ → Bool
fits_in width bits = if width == 2 then nat_lt bits (2 ^ 16) else (if width == 4 then nat_lt bits (2 ^ 32) else true)

-- ---- at a place

abbrev pub number_in : List ℕ → ℕ → ℕ → Option ℕ
number_in bytes at width = if is_width width && nat_le (at + width) (length bytes) then Some (number_at bytes at width) else None

-- the number at a place of one
abbrev pub loaded : List ℕ → Place → Option ℕ
loaded bytes p = if p.count == 1 then number_in bytes p.offset (width_of p.kind) else None

abbrev pub stored_in : List ℕ → ℕ → ℕ → ℕ → Option (List ℕ)
stored_in bytes at width bits =
    if (is_width width && nat_le (at + width) (length bytes)) && fits_in width bits then Some (overwritten bytes at (bytes_low_first 0 width bits)) else None

-- the bytes with a number at a place of one
abbrev pub stored : List ℕ → Place → ℕ → Option (List ℕ)
stored bytes p bits = if p.count == 1 then stored_in bytes p.offset (width_of p.kind) bits else None

-- of `there` numbers of this width, `count` of them are a row of 2 to 4
abbrev pub is_row : ℕ → ℕ → ℕ → Bool
is_row there count width = (nat_le 2 count && nat_le count 4) && (there == count && is_width width)

-- a place of so many numbers, 2 to 4, which lie in `len` bytes
abbrev pub is_row_in : ℕ → Place → ℕ → Bool
is_row_in len p n = is_row p.count n (width_of p.kind) && nat_le (p.offset + n * width_of p.kind) len

abbrev pub loaded_row : List ℕ → Place → ℕ → Option (List ℕ)
loaded_row bytes p n = if is_row_in (length bytes) p n then Some (numbers_at bytes p.offset (width_of p.kind) n) else None

abbrev pub stored_row : List ℕ → Place → List ℕ → Option (List ℕ)
stored_row bytes p ns =
    if is_row_in (length bytes) p (length ns) && list_all (fits_in (width_of p.kind)) ns then Some (written_row bytes p.offset (width_of p.kind) ns) else None
