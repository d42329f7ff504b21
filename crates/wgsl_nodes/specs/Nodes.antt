-- When a table of records holds the layout of a type (WGSL: alignment and size; structure member layout; internal
-- layout of values).
use Rattle.std.specs.Prelude.{◌≡◌, ℕ, suc, ◌+◌, ◌≤◌, Option, Some, None, List, slice_get}
use Rattle.wgsl_rules.specs.Types.{Ty, struct, array, vec, mat, Fields, no_fields, field}
use Rattle.wgsl_rules.specs.Size.{extent_in, offset_after, end_after}
use Rattle.wgsl_rules.specs.Layout.{amount, size, align, stride, Tail, tail_of}
use Rattle.wgsl_nodes.specs.HostTypes.{kind_of}
use Rattle.wgsl_nodes.specs.declared.nodes.Node.{Node}

-- ---- what a record says of a type

-- a number, vector, matrix, array or structure
abbrev pub sort_of : Ty → ℕ
sort_of (vec n t) = 1
sort_of (mat c r t) = 2
sort_of (array t n) = 3
sort_of (struct name fs) = 4
sort_of t = 0

abbrev pub members_in : Fields → ℕ
members_in no_fields = 0
members_in (field name t s a fs) = suc (members_in fs)

-- components, columns, elements, members; a runtime-sized array counts none
abbrev pub count_of : Ty → ℕ
count_of (vec n t) = n
count_of (mat c r t) = c
count_of (array t n) = amount n
count_of (struct name fs) = members_in fs
count_of t = 0

-- from one part to the next, where they are alike
abbrev pub part_stride : Ty → ℕ
part_stride (vec n t) = size t
part_stride (mat c r t) = align (vec r t)
part_stride (array t n) = stride t
part_stride t = 0

-- where a runtime-sized array begins, and from one of its elements to the next
abbrev pub start_of : Option Tail → ℕ
start_of None = 0
start_of (Some r) = r.start

abbrev pub stride_of : Option Tail → ℕ
stride_of None = 0
stride_of (Some r) = stride r.element

-- the bytes of a value, up to that array where there is one
abbrev pub bytes_before : Option Tail → ℕ → ℕ
bytes_before None n = n
bytes_before (Some r) n = r.start

pub record Says (r : Node) (t : Ty) : Type 0 where
  pub sort : r.sort ≡ sort_of t
  pub kind : r.kind ≡ kind_of t
  pub size : r.size ≡ bytes_before (tail_of t) (size t)
  pub align : r.align ≡ align t
  pub count : r.count ≡ count_of t
  pub stride : r.stride ≡ part_stride t
  pub tail_start : r.tail_start ≡ start_of (tail_of t)
  pub tail_stride : r.tail_stride ≡ stride_of (tail_of t)

-- ---- where the records of a type's parts stand

-- the record of the number says this of a part at the offset, and P holds of its child
pub record Stands (nodes : List Node) (number offset : ℕ) (t : Ty) (P : ℕ → Type 0) : Type 0 where
  pub node : Node
  pub there : slice_get nodes number ≡ Some node
  pub offset_is : node.offset ≡ offset
  pub says : Says node t
  pub leads : P node.child

abbrev mutual
  -- `child` is the first child of a record of the type: it and what it leads to stand at `low` or behind, each child
  -- behind its parent
  pub LeadsTo : List Node → ℕ → ℕ → Ty → Type 0
  LeadsTo nodes low child (vec n t) = (low ≤ child) × Stands nodes child 0 t (λ c. LeadsTo nodes (child + 1) c t)
  LeadsTo nodes low child (mat c r t) =
      (low ≤ child) × Stands nodes child 0 (vec r t) (λ k. (child + 1 ≤ k) × Stands nodes k 0 t (λ c. LeadsTo nodes (k + 1) c t))
  LeadsTo nodes low child (array t n) = (low ≤ child) × Stands nodes child 0 t (λ c. LeadsTo nodes (child + 1) c t)
  LeadsTo nodes low child (struct name fs) = (low ≤ child) × MembersStand nodes (child + members_in fs) child (Some 0) fs
  LeadsTo nodes low child t = child ≡ 0

  -- the records of the members, from the number on, of which the first stands behind what ends at `from`
  pub MembersStand : List Node → ℕ → ℕ → Option ℕ → Fields → Type 0
  MembersStand nodes low number from no_fields = Unit {0}
  MembersStand nodes low number from (field name t s a fs) =
      Stands nodes number (amount (offset_after from (extent_in t s a))) t (λ c. LeadsTo nodes low c t)
      × MembersStand nodes low (number + 1) (end_after from (extent_in t s a)) fs

-- a record says this of the type, and so do the records that it leads to of the types inside; these stand at `low` or
-- behind
pub record Describes (nodes : List Node) (low : ℕ) (r : Node) (t : Ty) : Type 0 where
  pub says : Says r t
  pub leads : LeadsTo nodes low r.child t

-- the record of the number, and what it leads to, is the layout of the type
pub record IsNodeOf (nodes : List Node) (number : ℕ) (t : Ty) : Type 0 where
  pub node : Node
  pub there : slice_get nodes number ≡ Some node
  pub describes : Describes nodes (number + 1) node t
