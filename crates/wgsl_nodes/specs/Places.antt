-- Where the parts of a value stand (WGSL: internal layout of values; composite value decomposition expressions).
use Rattle.std.specs.Prelude.{◌≡◌, ℕ, zero, suc, ◌+◌, ◌*◌, ◌/◌, ◌-◌, ◌^◌, ◌≤◌, Option, Some, None, Bool, List, [], ◌∷◌, slice_get, nat_lt, ◌==◌, ◌&&◌, ◌||◌, if◌then◌else◌, option_and_then, option_map, unwrap_or, MatchOption}
use Rattle.wgsl_rules.specs.Types.{Ty, struct, array, vec, mat, Fields, no_fields, field}
use Rattle.wgsl_rules.specs.Size.{extent_in, offset_after, end_after}
use Rattle.wgsl_rules.specs.Layout.{amount, size, align, stride}
use Rattle.wgsl_nodes.specs.HostTypes.{kind_of, is_number}
use Rattle.wgsl_nodes.specs.Nodes.{IsNodeOf}
use Rattle.wgsl_nodes.specs.declared.nodes.Node.{Node}
use Rattle.wgsl_nodes.specs.declared.places.Place.{Place}

-- ---- the parts of a type

-- where a part begins in a value, and its type
pub record Part : Type 0 where
  pub start : ℕ
  pub ty : Ty

abbrev pub part_if : Bool → ℕ → Ty → Option Part
part_if there start t = if there then Some (record { start = start; ty = t }) else None

-- the member of the position, of members of which the first stands behind what ends at `from`
abbrev pub member_in : Option ℕ → ℕ → Fields → Option Part
member_in from i no_fields = None
member_in from zero (field name t s a fs) = Some (record { start = amount (offset_after from (extent_in t s a)); ty = t })
member_in from (suc i) (field name t s a fs) = member_in (end_after from (extent_in t s a)) i fs

-- the component, column, element or member of the position; a runtime-sized array has as many elements as find room in
-- so many bytes
abbrev pub part_in : ℕ → ℕ → Ty → Option Part
part_in room i (vec n t) = part_if (nat_lt i n) (i * size t) t
part_in room i (mat c r t) = part_if (nat_lt i c) (i * align (vec r t)) (vec r t)
part_in room i (array t (Some n)) = part_if (nat_lt i n) (i * stride t) t
part_in room i (array t None) = part_if (nat_lt 0 (stride t) && nat_lt i (room / stride t)) (i * stride t) t
part_in room i (struct name fs) = member_in (Some 0) i fs
part_in room i t = None

-- the same, with so many elements in a runtime-sized array
abbrev pub part_with : ℕ → ℕ → Ty → Option Part
part_with n i (array t None) = part_if (nat_lt 0 (stride t) && nat_lt i n) (i * stride t) t
part_with n i t = part_in 0 i t

-- the kind of a number, or of a vector's components
abbrev pub number_kind : Ty → ℕ
number_kind (vec n t) = kind_of t
number_kind t = kind_of t

-- how many numbers stand side by side
abbrev pub numbers_in : Ty → ℕ
numbers_in (vec n t) = n
numbers_in t = if is_number t then 1 else 0

-- the place, of a part of this type at this offset
pub record IsPlaceOf (nodes : List Node) (offset : ℕ) (t : Ty) (p : Place) : Type 0 where
  pub offset_is : p.offset ≡ offset
  pub node : IsNodeOf nodes p.node t
  pub kind : p.kind ≡ number_kind t
  pub count : p.count ≡ numbers_in t

-- what is answered for a part in what begins at the offset: its place, unless that is past 2 ^ 64
abbrev pub IsPartAt : List Node → ℕ → Option Part → Option Place → Type 0
IsPartAt nodes offset part result =
    MatchOption part (result ≡ None) (λ q. MatchOption result (2 ^ 64 ≤ offset + q.start) (IsPlaceOf nodes (offset + q.start) q.ty))

-- the part at the end of a path of positions, from one that begins at the offset, in a value of `len` bytes
abbrev pub part_along : ℕ → List ℕ → ℕ → Ty → Option Part
part_along len [] offset t = Some (record { start = offset; ty = t })
part_along len (i ∷ path) offset t = option_and_then (λ q. part_along len path (offset + q.start) q.ty) (part_in (len - offset) i t)

-- the place is one of a part within the type, which begins at the offset
pub record IsPartAlong (nodes : List Node) (len offset : ℕ) (t : Ty) (p : Place) : Type 0 where
  pub path : List ℕ
  pub part : Part
  pub leads : part_along len path offset t ≡ Some part
  pub place : IsPlaceOf nodes part.start part.ty p

-- ---- by the records alone, whatever they are

abbrev pub kind_at : List Node → Node → ℕ
kind_at nodes r = if r.sort == 1 then unwrap_or (option_map (λ c. c.kind) (slice_get nodes r.child)) 0 else r.kind

abbrev pub count_at : Node → ℕ
count_at r = if r.sort == 1 then r.count else (if nat_lt 0 r.kind then 1 else 0)

abbrev pub placed : List Node → ℕ → ℕ → Node → Place
placed nodes offset number r = record { offset = offset; node = number; kind = kind_at nodes r; count = count_at r; spare = 0 }

-- the place of the record of the number, at the offset
abbrev pub place_in : List Node → ℕ → ℕ → Option Place
place_in nodes offset number = if nat_lt offset (2 ^ 64) && nat_lt number (2 ^ 32) then option_map (placed nodes offset number) (slice_get nodes number) else None

-- of a member, in a structure that begins at the offset
abbrev pub member_place : List Node → ℕ → ℕ → Option Place
member_place nodes offset number = option_and_then (λ r. place_in nodes (offset + r.offset) number) (slice_get nodes number)

-- a component, column or element of the position is there, with so many bytes for a runtime-sized array
abbrev pub has_part : Node → ℕ → ℕ → Bool
has_part r i room = if r.sort == 3 && nat_lt 0 r.tail_stride then nat_lt i (room / r.tail_stride) else nat_lt i r.count

abbrev pub has_row : Node → Bool
has_row r = r.sort == 1 || (r.sort == 2 || r.sort == 3)

abbrev pub part_of_node : List Node → ℕ → ℕ → ℕ → Node → Option Place
part_of_node nodes offset room i r =
    if r.sort == 4
    then (if nat_lt i r.count then member_place nodes offset (r.child + i) else None)
    else (if has_row r && has_part r i room then place_in nodes (offset + i * r.stride) r.child else None)

-- the place of the part of the position, in a value of `len` bytes
abbrev pub part_of : List Node → Place → ℕ → ℕ → Option Place
part_of nodes p i len = option_and_then (part_of_node nodes p.offset (len - p.offset) i) (slice_get nodes p.node)

-- a component, column or element of the position is there, with so many elements in a runtime-sized array
abbrev pub has_part_with : Node → ℕ → ℕ → Bool
has_part_with r i n = if r.sort == 3 && nat_lt 0 r.tail_stride then nat_lt i n else nat_lt i r.count

-- the part of the position in what begins at the offset, where a component, column or element is there if it says so
abbrev pub part_where : List Node → ℕ → ℕ → Node → Bool → Option Place
part_where nodes offset i r there =
    if r.sort == 4
    then (if nat_lt i r.count then member_place nodes offset (r.child + i) else None)
    else (if has_row r && there then place_in nodes (offset + i * r.stride) r.child else None)

-- the place of the part of the position, with so many elements in a runtime-sized array
abbrev pub part_of_with : List Node → Place → ℕ → ℕ → Option Place
part_of_with nodes p i n = option_and_then (λ r. part_where nodes p.offset i r (has_part_with r i n)) (slice_get nodes p.node)
