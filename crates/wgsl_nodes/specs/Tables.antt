-- What holds of any table, whatever its type: each record agrees with its kind and with the records of its parts (WGSL:
-- alignment and size; structure member layout).
use Rattle.std.specs.Prelude.{◌≡◌, ℕ, ◌+◌, ◌*◌, ◌%◌, ◌<◌, Option, Some, None, Bool, true, false, List, [], ◌∷◌, take, drop, length, slice_get, nat_lt, nat_le, ◌==◌, ◌&&◌, if◌then◌else◌, IsSomeAnd, sum_by}
use Rattle.std.specs.Int.{next_multiple_of}
use Rattle.wgsl_rules.specs.Layout.{is_from_2_to_4}
use Rattle.wgsl_nodes.specs.Numbers.{is_width, width_of}
use Rattle.wgsl_nodes.specs.declared.nodes.Node.{Node}

abbrev pub no_tail : Node → Bool
no_tail r = r.tail_start == 0 && r.tail_stride == 0

-- no parts, and the size and alignment of its kind
abbrev pub is_number_sound : Node → Bool
is_number_sound r = (is_width (width_of r.kind) && (r.size == width_of r.kind && r.align == width_of r.kind)) && ((r.count == 0 && (r.stride == 0 && r.child == 0)) && no_tail r)

-- three components are aligned as four
abbrev pub vector_align : ℕ → ℕ → ℕ
vector_align n bytes = if n == 3 then 4 * bytes else n * bytes

-- the part of a vector is a number that is no atomic
abbrev pub is_vector_sound : Node → Node → Bool
is_vector_sound r part =
    ((part.sort == 0 && nat_lt part.kind 256) && is_from_2_to_4 r.count)
    && ((r.stride == part.size && r.size == r.count * part.size) && (r.align == vector_align r.count part.size && no_tail r))

-- of a matrix a vector
abbrev pub is_matrix_sound : Node → Node → Bool
is_matrix_sound r part =
    (part.sort == 1 && is_from_2_to_4 r.count) && ((r.stride == part.align && r.size == r.count * part.align) && (r.align == part.align && no_tail r))

-- of an array what has a fixed size; one that is runtime-sized has no bytes before its elements
abbrev pub is_array_sound : Node → Node → Bool
is_array_sound r part =
    ((part.tail_stride == 0 && nat_lt 0 part.align) && (r.align == part.align && r.stride == next_multiple_of part.size part.align))
    && (if r.count == 0 then (r.size == 0 && nat_lt 0 r.stride) && (r.tail_start == 0 && r.tail_stride == r.stride) else r.size == r.count * r.stride && no_tail r)

-- a part stands where the others begin
abbrev pub is_part_sound : Node → Node → Bool
is_part_sound r part = part.offset == 0 && (if r.sort == 1 then is_vector_sound r part else (if r.sort == 2 then is_matrix_sound r part else r.sort == 3 && is_array_sound r part))

abbrev pub is_row_sound : Node → Option Node → Bool
is_row_sound r None = false
is_row_sound r (Some part) = is_part_sound r part

-- a member stands at a multiple of its alignment, behind what ends at `end`, in a structure whose
-- alignment is a multiple of its own
abbrev pub is_member_sound : Node → ℕ → Node → Bool
is_member_sound r end m = ((nat_lt 0 m.align && nat_lt 0 r.align) && (m.offset % m.align == 0 && r.align % m.align == 0)) && nat_le end m.offset

-- a runtime-sized array stands last, and the structure counts the bytes before it
abbrev pub is_tail_sound : Node → Node → Bool
is_tail_sound r m = (m.sort == 3 && r.size == m.offset) && (r.tail_start == m.offset && r.tail_stride == m.tail_stride)

-- the end of the last member is filled up to the alignment
abbrev pub is_end_sound : Node → ℕ → Bool
is_end_sound r end = (nat_lt 0 r.align && (nat_le end r.size && r.size % r.align == 0)) && no_tail r

abbrev pub is_none_left : List Node → Bool
is_none_left [] = true
is_none_left (m ∷ ms) = false

-- the members, one behind the other, of which the first stands behind what ends at `end`
abbrev pub are_members_sound : Node → ℕ → List Node → Bool
are_members_sound r end [] = is_end_sound r end
are_members_sound r end (m ∷ ms) =
    is_member_sound r end m && (if m.tail_stride == 0 then are_members_sound r (m.offset + m.size) ms else is_none_left ms && is_tail_sound r m)

-- one member at least, each of them there
abbrev pub is_structure_sound : List Node → Node → Bool
is_structure_sound nodes r =
    ((nat_lt 0 r.count && r.stride == 0) && nat_le (r.child + r.count) (length nodes)) && are_members_sound r 0 (take r.count (drop r.child nodes))

-- the record of the number; only a number has a kind
abbrev pub is_sound : List Node → ℕ → Node → Bool
is_sound nodes number r =
    if r.sort == 0
    then is_number_sound r
    else (r.kind == 0 && nat_lt number r.child) && (if r.sort == 4 then is_structure_sound nodes r else is_row_sound r (slice_get nodes r.child))

-- where the record of the number is there
abbrev pub is_sound_if : List Node → ℕ → Option Node → Bool
is_sound_if nodes number None = true
is_sound_if nodes number (Some r) = is_sound nodes number r

abbrev pub is_sound_at : List Node → ℕ → Bool
is_sound_at nodes number = is_sound_if nodes number (slice_get nodes number)

-- how many children a record has: one of parts alike
abbrev pub children_counted : Node → ℕ
children_counted r = if r.sort == 4 then r.count else (if r.sort == 0 then 0 else 1)

-- each record of a table is so, they count as many children as there are behind the root, and that stands at the start
pub record IsTable (nodes : List Node) : Type 0 where
  pub root : IsSomeAnd (slice_get nodes 0) (λ r. r.offset ≡ 0)
  pub children : sum_by children_counted nodes + 1 ≡ length nodes
  pub each : (number : ℕ) → number < length nodes → is_sound_at nodes number ≡ true
