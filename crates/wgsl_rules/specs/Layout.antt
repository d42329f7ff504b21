-- How the values of a type are laid out in host-shared memory: which types have a layout, and of one that
-- has, the parts of a value, each at its place, down to the scalars (WGSL: internal layout of values).
use Rattle.std.specs.Prelude.{ℕ, zero, suc, ◌+◌, ◌-◌, ◌*◌, ◌/◌, ◌%◌, List, [], ◌∷◌, ◌++◌, map, Option, Some, None, Bool, true, false, is_some, is_none, IsTrue, nat_le, ◌==◌, ◌&&◌, ◌||◌, if◌then◌else◌}
use Rattle.std.specs.Int.{is_power_of_two}
use Rattle.wgsl_rules.specs.Kinds as kinds
use Rattle.wgsl_rules.specs.Kinds.{Kind, bytes_of}
use Rattle.wgsl_rules.specs.Types.{Ty, i32, u32, i64, u64, struct, array, vec, mat, atomic, Fields, no_fields, field}
use Rattle.wgsl_rules.specs.Values.{Val, Vals, no_vals, val, count, record_of, array_of, type_of}
use Rattle.wgsl_rules.specs.View.{Field}
use Rattle.wgsl_rules.specs.Size.{size_of, align_of, stride_of, extent_in, offset_after, end_after}

abbrev pub amount : Option ℕ → ℕ
amount None = 0
amount (Some n) = n

-- in bytes, where they are known
abbrev pub size : Ty → ℕ
size t = amount (size_of t)

abbrev pub align : Ty → ℕ
align t = amount (align_of t)

-- from one element of an array to the next
abbrev pub known_stride : Ty → Option ℕ
known_stride t = stride_of (align_of t) (size_of t)

abbrev pub stride : Ty → ℕ
stride t = amount (known_stride t)

-- ---- which types have a layout

-- the scalars of host-shared memory
abbrev pub scalar_kind : Ty → Option Kind
scalar_kind i32 = Some kinds.i32
scalar_kind u32 = Some kinds.u32
scalar_kind i64 = Some kinds.i64
scalar_kind u64 = Some kinds.u64
scalar_kind t = None

-- an atomic is laid out as its content, an i32 or a u32
abbrev pub atomic_kind : Ty → Option Kind
atomic_kind i32 = Some kinds.i32
atomic_kind u32 = Some kinds.u32
atomic_kind t = None

-- what is laid out as one number
abbrev pub leaf_kind : Ty → Option Kind
leaf_kind (atomic t) = atomic_kind t
leaf_kind t = scalar_kind t

-- of components, columns and rows
abbrev pub is_from_2_to_4 : ℕ → Bool
is_from_2_to_4 n = nat_le 2 n && nat_le n 4

-- of an alignment that is known
abbrev pub is_multiple_of : ℕ → Option ℕ → Bool
is_multiple_of a None = false
is_multiple_of a (Some align) = a % align == 0

-- an align attribute is a power of two, and a multiple of the alignment of the type; without the attribute that
-- is known
abbrev pub is_align_valid : Option ℕ → Option ℕ → Bool
is_align_valid None align = is_some align
is_align_valid (Some a) align = is_power_of_two a && is_multiple_of a align

-- at least a size that is known
abbrev pub is_at_least : ℕ → Option ℕ → Bool
is_at_least s None = false
is_at_least s (Some size) = nat_le size s

-- a size attribute is at least the size of the type
abbrev pub is_size_valid : Option ℕ → Option ℕ → Bool
is_size_valid None size = true
is_size_valid (Some s) size = is_at_least s size

-- both attributes, of a member of the type
abbrev pub are_attributes_valid : Ty → Option ℕ → Option ℕ → Bool
are_attributes_valid t size align = is_size_valid size (size_of t) && is_align_valid align (align_of t)

-- a layout of a size that is known from the type alone
abbrev mutual
  pub has_fixed_layout : Ty → Bool
  has_fixed_layout (vec n t) = is_from_2_to_4 n && is_some (scalar_kind t)
  has_fixed_layout (mat c r t) = is_from_2_to_4 c && (is_from_2_to_4 r && (is_some (scalar_kind t) && is_some (size_of (mat c r t))))
  has_fixed_layout (array t (Some n)) = nat_le 1 n && (has_fixed_layout t && is_some (size_of (array t (Some n))))
  has_fixed_layout (struct name fs) = have_fixed_layouts fs && is_some (size_of (struct name fs))
  has_fixed_layout t = is_some (leaf_kind t)

  -- and each of the members with valid attributes
  pub have_fixed_layouts : Fields → Bool
  have_fixed_layouts no_fields = true
  have_fixed_layouts (field name t s a fs) = (has_fixed_layout t && are_attributes_valid t s a) && have_fixed_layouts fs

abbrev pub is_fixed_member : Field → Bool
is_fixed_member f = has_fixed_layout f.ty && are_attributes_valid f.ty f.size f.align

-- a runtime-sized array of such elements
abbrev pub is_runtime_array : Ty → Bool
is_runtime_array (array t None) = has_fixed_layout t && is_some (known_stride t)
is_runtime_array t = false

abbrev pub have_none : Fields → Bool
have_none no_fields = true
have_none (field name t s a fs) = false

-- a member that is such an array, without a size attribute
abbrev pub is_runtime_member : Field → Bool
is_runtime_member f = is_runtime_array f.ty && (is_none f.size && is_align_valid f.align (align_of f.ty))

-- the last of the members, of which the first stands after `from`, is such a member and has a place; the others
-- have fixed layouts
abbrev pub end_in_runtime_array : Option ℕ → Fields → Bool
end_in_runtime_array from no_fields = false
end_in_runtime_array from (field name t s a fs) =
    if have_none fs
    then is_runtime_member (record { name = name; ty = t; size = s; align = a }) && is_some (offset_after from (extent_in t s a))
    else (has_fixed_layout t && are_attributes_valid t s a) && end_in_runtime_array (end_after from (extent_in t s a)) fs

abbrev pub has_runtime_layout : Ty → Bool
has_runtime_layout (struct name fs) = end_in_runtime_array (Some 0) fs
has_runtime_layout t = is_runtime_array t

abbrev pub has_layout : Ty → Bool
has_layout t = has_fixed_layout t || has_runtime_layout t

abbrev pub HasLayout : Ty → Type 0
HasLayout t = IsTrue (has_layout t)

-- ---- the runtime-sized array that a type is or ends in

-- where it begins, and the type of its elements
pub record Tail : Type 0 where
  pub start : ℕ
  pub element : Ty

abbrev pub tail_at : ℕ → Ty → Option Tail
tail_at start (array t None) = Some (record { start = start; element = t })
tail_at start t = None

-- that of the last of the members, of which the first stands after `from`
abbrev pub last_tail : Option Tail → Option ℕ → Fields → Option Tail
last_tail found from no_fields = found
last_tail found from (field name t s a fs) =
    last_tail (tail_at (amount (offset_after from (extent_in t s a))) t) (end_after from (extent_in t s a)) fs

abbrev pub tail_of : Ty → Option Tail
tail_of (struct name fs) = last_tail None (Some 0) fs
tail_of t = tail_at 0 t

-- a size that is known of the type alone, else up to the end of n elements of that array
abbrev pub length_with : ℕ → ℕ → Option Tail → ℕ
length_with n size None = size
length_with n size (Some r) = r.start + n * stride r.element

-- how many bytes a value takes of a type that has a layout, with n elements in that array
abbrev pub layout_len : ℕ → Ty → ℕ
layout_len n t = length_with n (size t) (tail_of t)

abbrev pub at_least_one : ℕ → Option ℕ
at_least_one zero = None
at_least_one (suc n) = Some (suc n)

-- as many elements as find room in so many bytes, one at least
abbrev pub count_with : ℕ → ℕ → Option Tail → Option ℕ
count_with len size None = if nat_le size len then Some 0 else None
count_with len size (Some r) = if nat_le r.start len then at_least_one ((len - r.start) / stride r.element) else None

-- how many elements that array has in so many bytes, 0 where there is no such array; none where the bytes are
-- too few for a value of the type
abbrev pub count_in : ℕ → Ty → Option ℕ
count_in len t = count_with len (size t) (tail_of t)

-- ---- the layout of a type

-- a scalar or an atomic, or a composite of so many bytes with parts, each of them at its place
mutual
  pub data Layout : Type 0 where
    scalar : Ty → Kind → Layout
    composite : Ty → ℕ → Parts → Layout

  pub data Parts : Type 0 where
    no_parts : Parts
    part : ℕ → Layout → Parts → Parts

abbrev pub type_in : Layout → Ty
type_in (scalar t k) = t
type_in (composite t len ps) = t

abbrev pub length_in : Layout → ℕ
length_in (scalar t k) = bytes_of k
length_in (composite t len ps) = len

-- n parts alike, the first of them at `from`, each so far from the last
abbrev pub repeated : Layout → ℕ → ℕ → ℕ → Parts
repeated l stride from zero = no_parts
repeated l stride from (suc n) = part from l (repeated l stride (from + stride) n)

abbrev pub leaf : Ty → Option Kind → Layout
leaf t None = composite t 0 no_parts
leaf t (Some k) = scalar t k

-- of a value of the type t, with n elements in the runtime-sized array that t is or ends in
abbrev mutual
  pub layout : ℕ → Ty → Layout
  layout n (vec k t) = composite (vec k t) (size (vec k t)) (repeated (layout n t) (size t) 0 k)
  layout n (mat c r t) =
      composite (mat c r t) (size (mat c r t))
      (repeated (composite (vec r t) (size (vec r t)) (repeated (layout n t) (size t) 0 r)) (align (vec r t)) 0 c)
  layout n (array t (Some k)) = composite (array t (Some k)) (size (array t (Some k))) (repeated (layout n t) (stride t) 0 k)
  layout n (array t None) = composite (array t None) (layout_len n (array t None)) (repeated (layout n t) (stride t) 0 n)
  layout n (struct name fs) = composite (struct name fs) (layout_len n (struct name fs)) (member_parts n (Some 0) fs)
  layout n t = leaf t (leaf_kind t)

  -- of the members, of which the first stands after `from`
  pub member_parts : ℕ → Option ℕ → Fields → Parts
  member_parts n from no_fields = no_parts
  member_parts n from (field name t s a fs) =
      part (amount (offset_after from (extent_in t s a))) (layout n t) (member_parts n (end_after from (extent_in t s a)) fs)

-- the elements of the runtime-sized array that a value is or ends in
abbrev pub elements : Val → ℕ
elements (array_of true vs) = count vs
elements v = 0

abbrev pub last_elements : ℕ → Vals → ℕ
last_elements n no_vals = n
last_elements n (val v vs) = last_elements (elements v) vs

abbrev pub runtime_count : Val → ℕ
runtime_count (record_of t vs) = last_elements 0 vs
runtime_count v = elements v

-- how a value is laid out
abbrev pub layout_of : Val → Layout
layout_of v = layout (runtime_count v) (type_of v)

-- ---- the scalars of a layout

-- a scalar of a value: where it is in the value, where its bytes begin in the buffer, and its kind
pub record Leaf : Type 0 where
  pub path : List ℕ
  pub offset : ℕ
  pub kind : Kind

-- the leaf of part i, which stands at `offset`
abbrev pub under : ℕ → ℕ → Leaf → Leaf
under i offset l = record { path = i ∷ l.path; offset = offset + l.offset; kind = l.kind }

abbrev mutual
  pub leaves : Layout → List Leaf
  leaves (scalar t k) = record { path = []; offset = 0; kind = k } ∷ []
  leaves (composite t len ps) = part_leaves 0 ps

  -- the first of the parts is part i
  pub part_leaves : ℕ → Parts → List Leaf
  part_leaves i no_parts = []
  part_leaves i (part from l ps) = map (under i from) (leaves l) ++ part_leaves (suc i) ps
