-- The table of a type, record for record: the type alone determines it (WGSL: alignment and size; structure member
-- layout).
use Rattle.std.specs.Prelude.{ℕ, ◌+◌, Option, Some, List, [], ◌∷◌, ◌++◌, length, ◌==◌, if◌then◌else◌, IsTrue}
use Rattle.wgsl_rules.specs.Types.{Ty, struct, array, vec, mat, Fields, no_fields, field}
use Rattle.wgsl_rules.specs.Size.{extent_in, offset_after, end_after}
use Rattle.wgsl_rules.specs.Layout.{amount, size, align, tail_of}
use Rattle.wgsl_nodes.specs.HostTypes.{kind_of, has_nodes}
use Rattle.wgsl_nodes.specs.Nodes.{IsNodeOf, sort_of, count_of, part_stride, members_in, bytes_before, start_of, stride_of}
use Rattle.wgsl_nodes.specs.Tables.{IsTable}
use Rattle.wgsl_nodes.specs.declared.nodes.Node.{Node}

-- the record of a type, with no offset and no name; its first child has this number, and a number has none
abbrev pub node_of : Ty → ℕ → Node
node_of t child = record {
  sort = sort_of t;
  kind = kind_of t;
  offset = 0;
  size = bytes_before (tail_of t) (size t);
  align = align t;
  count = count_of t;
  stride = part_stride t;
  child = if sort_of t == 0 then 0 else child;
  tail_start = start_of (tail_of t);
  tail_stride = stride_of (tail_of t);
  name_start = 0;
  name_end = 0;
}

abbrev mutual
  -- the records that a record of the type leads to, of which the first has this number: the one of its components,
  -- columns or elements, then what that leads to; or those of all members, then what they lead to
  pub below : ℕ → Ty → List Node
  below first (vec n t) = node_of t 0 ∷ []
  below first (mat c r t) = node_of (vec r t) (first + 1) ∷ (node_of t 0 ∷ [])
  below first (array t n) = node_of t (first + 1) ∷ below (first + 1) t
  below first (struct name fs) = member_nodes (first + members_in fs) (Some 0) fs ++ below_members (first + members_in fs) fs
  below first t = []

  -- the members' own records, of which the first stands behind what ends at `from`; what the first leads to begins at
  -- `next`, what each other leads to behind that of the one before
  pub member_nodes : ℕ → Option ℕ → Fields → List Node
  member_nodes next from no_fields = []
  member_nodes next from (field name t s a fs) =
      record (node_of t next) { offset = amount (offset_after from (extent_in t s a)) } ∷ member_nodes (next + length (below next t)) (end_after from (extent_in t s a)) fs

  -- what the members lead to, of which the first begins at `next`
  pub below_members : ℕ → Fields → List Node
  below_members next no_fields = []
  below_members next (field name t s a fs) = below next t ++ below_members (next + length (below next t)) fs

-- the record of the type, and what it leads to
abbrev pub table : Ty → List Node
table t = node_of t 1 ∷ below 1 t

-- the table of each type that has one is a table, and the layout of that type
abbrev pub TheTableIsThatOfTheType : Type 0
TheTableIsThatOfTheType = (t : Ty) → IsTrue (has_nodes t) → IsNodeOf (table t) 0 t × IsTable (table t)
