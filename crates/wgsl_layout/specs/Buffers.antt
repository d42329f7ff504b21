-- The bytes of a value in host-shared memory, and the value that bytes lay out
-- (WGSL: internal layout of values).
use Rattle.std.specs.Prelude.{◌≡◌, ℕ, zero, suc, ◌+◌, ◌-◌, ◌*◌, ◌^◌, ℤ, pos, List, [], ◌∷◌, map, length, slice_index, Option, Some, None, option_map, Bool, true, false, ◌&&◌, ◌||◌, nat_le, nat_lt, if◌then◌else◌}
use Rattle.std.specs.List.{range_with_len}
use Rattle.wgsl_rules.specs.Kinds.{Kind, bytes_of, modulo, floor_div, wrap}
use Rattle.wgsl_rules.specs.Types.{Ty, struct, array, vec, mat, atomic}
use Rattle.wgsl_rules.specs.Values.{Val, number, record_of, array_of, vector, matrix, atomic_of, deferred, Vals, no_vals, val, type_of, IsStorable}
use Rattle.wgsl_rules.specs.Paths.{value_at}
use Rattle.wgsl_rules.specs.Layout.{has_layout, HasLayout, Layout, scalar, composite, Parts, no_parts, part, length_in, layout, layout_of, runtime_count, count_in, Leaf, leaves}

-- the number of a scalar or an atomic
abbrev pub number_of : Option Val → ℤ
number_of (Some (number k z)) = z
number_of (Some (atomic_of (number k z))) = z
number_of o = pos 0

abbrev pub number_at : Val → List ℕ → ℤ
number_at v p = number_of (value_at p v)

-- byte k of a number, little-endian, in two's complement: floor (z / 256 ^ k) mod 256
abbrev pub byte_of : ℤ → ℕ → ℕ
byte_of z k = modulo (floor_div z (256 ^ k)) 256

abbrev pub covers : Leaf → ℕ → Bool
covers l j = nat_le l.offset j && nat_lt j (l.offset + bytes_of l.kind)

-- byte j, where a path p has the number `num p`: that of the leaf that covers it, else 0
abbrev pub byte_at : (List ℕ → ℤ) → List Leaf → ℕ → ℕ
byte_at num [] j = 0
byte_at num (l ∷ ls) j = if covers l j then byte_of (num l.path) (j - l.offset) else byte_at num ls j

-- all bytes of a layout, where a path p has the number `num p`
abbrev pub bytes_with : (List ℕ → ℤ) → Layout → List ℕ
bytes_with num l = map (byte_at num (leaves l)) (range_with_len 0 (length_in l))

-- of a value whose type has a layout
abbrev pub buffer : Val → List ℕ
buffer v = bytes_with (number_at v) (layout_of v)

-- what a call for the buffer of a value answers. A type seen as a value has no bytes
abbrev pub buffer_of : Val → Option (List ℕ)
buffer_of (deferred t) = None
buffer_of v = if has_layout (type_of v) then Some (buffer v) else None

-- ---- reading

-- the number in these bytes, `width` of them from o on, the lowest first
abbrev pub number_from : List ℕ → ℕ → ℕ → ℕ
number_from b o zero = 0
number_from b o (suc width) = slice_index b o + 256 * number_from b (o + 1) width

-- the number of a kind that stands in the bytes from o on
abbrev pub read_number : List ℕ → ℕ → Kind → ℤ
read_number b o k = wrap k (pos (number_from b o (bytes_of k)))

-- each leaf has its number in the bytes
abbrev pub Reads : (List ℕ → ℤ) → List ℕ → List Leaf → Type 0
Reads num b [] = Unit {0}
Reads num b (l ∷ ls) = (num l.path ≡ read_number b l.offset l.kind) × Reads num b ls

-- the bytes lay out the value v of the type t
pub record Lays (b : List ℕ) (t : Ty) (v : Val) : Type 0 where
  pub layout : HasLayout t
  pub storable : IsStorable v
  pub typed : type_of v ≡ t
  -- they are enough, and a runtime-sized array has as many elements as find room
  pub counted : count_in (length b) t ≡ Some (runtime_count v)
  pub reads : Reads (number_at v) b (leaves (layout_of v))

-- what reading bytes answers: the one value that they lay out, or none where they lay out none
abbrev pub IsReadOf : List ℕ → Ty → Option Val → Type 0
IsReadOf b t None = (v : Val) → ¬ Lays b t v
IsReadOf b t (Some v) = Lays b t v × ((w : Val) → Lays b t w → w ≡ v)

-- ---- the value that is read

-- the scalar or the atomic of a type
abbrev pub made_of_number : Ty → Kind → ℤ → Val
made_of_number (atomic t) k z = atomic_of (number k z)
made_of_number t k z = number k z

-- the composite of a type with these parts
abbrev pub made_of_parts : Ty → Vals → Val
made_of_parts (struct name fs) vs = record_of (struct name fs) vs
made_of_parts (array t None) vs = array_of true vs
made_of_parts (array t (Some n)) vs = array_of false vs
made_of_parts (vec n t) vs = vector vs
made_of_parts (mat c r t) vs = matrix vs
made_of_parts t vs = deferred t

-- of a layout, in the bytes from o on
abbrev mutual
  pub decoded : List ℕ → ℕ → Layout → Val
  decoded b o (scalar t k) = made_of_number t k (read_number b o k)
  decoded b o (composite t len ps) = made_of_parts t (decoded_parts b o ps)

  pub decoded_parts : List ℕ → ℕ → Parts → Vals
  decoded_parts b o no_parts = no_vals
  decoded_parts b o (part from l ps) = val (decoded b (o + from) l) (decoded_parts b o ps)

-- what the bytes lay out
abbrev pub decode : List ℕ → Ty → Option Val
decode b t = if has_layout t then option_map (λ n. decoded b 0 (layout n t)) (count_in (length b) t) else None

-- ---- padding

-- a byte that no leaf covers is padding
abbrev pub is_covered : List Leaf → ℕ → Bool
is_covered [] j = false
is_covered (l ∷ ls) j = covers l j || is_covered ls j

-- the first bytes, as many as the layout has, with padding zeroed
abbrev pub without_padding : List ℕ → Layout → List ℕ
without_padding b l = map (λ j. if is_covered (leaves l) j then slice_index b j else 0) (range_with_len 0 (length_in l))
