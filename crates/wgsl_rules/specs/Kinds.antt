-- The kinds of numbers, and the number of a kind that equals another modulo its width
-- (WGSL: integer types; arithmetic expressions).
use Rattle.std.specs.Prelude.{ℕ, ◌-◌, ◌/◌, ◌%◌, ◌^◌, ℤ, pos, negsuc, ◌-ℤ◌, int_le, nat_lt, Bool, true, false, IsTrue, ◌&&◌, if◌then◌else◌}

pub data Kind : Type 0 where
  abstract_int : Kind
  i32 : Kind
  u32 : Kind
  i64 : Kind
  u64 : Kind

-- how many bits a number of the kind has
abbrev pub width : Kind → ℕ
width abstract_int = 64
width i32 = 32
width u32 = 32
width i64 = 64
width u64 = 64

-- how many bytes
abbrev pub bytes_of : Kind → ℕ
bytes_of k = width k / 8

abbrev pub is_signed : Kind → Bool
is_signed abstract_int = true
is_signed i32 = true
is_signed u32 = false
is_signed i64 = true
is_signed u64 = false

-- the least and the greatest number of a kind
abbrev pub least : Kind → ℤ
least abstract_int = negsuc (2 ^ 63 - 1)
least i32 = negsuc (2 ^ 31 - 1)
least u32 = pos 0
least i64 = negsuc (2 ^ 63 - 1)
least u64 = pos 0

abbrev pub greatest : Kind → ℤ
greatest abstract_int = pos (2 ^ 63 - 1)
greatest i32 = pos (2 ^ 31 - 1)
greatest u32 = pos (2 ^ 32 - 1)
greatest i64 = pos (2 ^ 63 - 1)
greatest u64 = pos (2 ^ 64 - 1)

-- z is a number of the kind
abbrev pub in_kind : Kind → ℤ → Bool
in_kind k z = int_le (least k) z && int_le z (greatest k)

abbrev pub InKind : Kind → ℤ → Type 0
InKind k z = IsTrue (in_kind k z)

-- the rest of z by m, from 0 to m - 1
abbrev pub modulo : ℤ → ℕ → ℕ
modulo (pos a) m = a % m
modulo (negsuc a) m = m - 1 - a % m

-- the quotient of z by m, rounded down
abbrev pub floor_div : ℤ → ℕ → ℤ
floor_div (pos a) m = pos (a / m)
floor_div (negsuc a) m = negsuc (a / m)

-- of a signed kind of the width w, the number that equals n, which is below 2 ^ w
abbrev pub as_signed : ℕ → ℕ → ℤ
as_signed w n = if nat_lt n (2 ^ (w - 1)) then pos n else pos n -ℤ pos (2 ^ w)

-- the number of the kind that equals z modulo 2 ^ width
abbrev pub wrap : Kind → ℤ → ℤ
wrap k z = if is_signed k then as_signed (width k) (modulo z (2 ^ width k)) else pos (modulo z (2 ^ width k))
