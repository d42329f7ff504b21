-- What the making of a table adds to it, for the contracts of the code that makes it.
use Rattle.std.specs.Prelude.{◌≡◌, ℕ, ◌+◌, ◌++◌, ◌<◌, ◌≤◌, ◌*◌, Option, Some, List, slice_get, length, sum_by, Bool, IsTrue, is_some, ◌&&◌}
use Rattle.std.specs.Option.{option_or}
use Rattle.wgsl_rules.specs.Types.{Ty, array}
use Rattle.wgsl_rules.specs.Size.{with_both, round_up}
use Rattle.wgsl_rules.specs.Layout.{is_align_valid}
use Rattle.wgsl_nodes.specs.Canonical.{node_of, below}
use Rattle.wgsl_nodes.specs.HostTypes.{has_nodes}
use Rattle.wgsl_nodes.specs.Nodes.{Says, Describes, IsNodeOf}
use Rattle.wgsl_nodes.specs.Tables.{children_counted}
use Rattle.wgsl_nodes.specs.declared.nodes.Node.{Node}
use Rattle.wgsl_nodes.specs.declared.make.Spot.{Spot}

-- ---- records

-- of the sort, kind, size, alignment, count, stride, first child and runtime-sized array
abbrev pub plain_node : ℕ → ℕ → ℕ → ℕ → ℕ → ℕ → ℕ → ℕ → ℕ → Node
plain_node sort kind size align count stride child start tail = record {
  sort = sort;
  kind = kind;
  offset = 0;
  size = size;
  align = align;
  count = count;
  stride = stride;
  child = child;
  tail_start = start;
  tail_stride = tail;
  name_start = 0;
  name_end = 0;
}

-- of a place that is kept for a record
abbrev pub empty_node : Node
empty_node = plain_node 0 0 0 0 0 0 0 0 0

abbrev pub number_node : ℕ → ℕ → Node
number_node kind bytes = plain_node 0 kind bytes bytes 0 0 0 0 0

-- of n components of so many bytes
abbrev pub vector_node : ℕ → ℕ → ℕ → ℕ → Node
vector_node n bytes align child = plain_node 1 0 (n * bytes) align n bytes child 0 0

abbrev pub array_node : ℕ → ℕ → ℕ → ℕ → ℕ → ℕ → Node
array_node size align count stride child tail = plain_node 3 0 size align count stride child 0 tail

abbrev pub structure_node : ℕ → ℕ → ℕ → ℕ → ℕ → ℕ → Node
structure_node size align count child start tail = plain_node 4 0 size align count 0 child start tail

-- a record of one number
pub record IsNumberOf (r : Node) (t : Ty) : Type 0 where
  pub says : Says r t
  pub place : r.offset ≡ 0
  pub last : r.child ≡ 0
  pub exact : r ≡ node_of t 0

-- a record of an array of n elements of the type, whose own record has this number
pub record IsArrayOf (t : Ty) (n : Option ℕ) (child : ℕ) (r : Node) : Type 0 where
  pub host : IsTrue (has_nodes (array t n))
  pub says : Says r (array t n)
  pub place : r.offset ≡ 0
  pub child_is : r.child ≡ child
  pub exact : r ≡ node_of (array t n) child

-- ---- members

-- a member with this attribute, of a type of this alignment, has a place behind what ends at `from`
abbrev pub has_spot : Option ℕ → Option ℕ → Option ℕ → Bool
has_spot from attribute align = is_align_valid attribute align && is_some (with_both round_up (option_or attribute align) from)

pub record IsSpot (from attribute align : Option ℕ) (s : Spot) : Type 0 where
  pub valid : IsTrue (is_align_valid attribute align)
  pub align_is : option_or attribute align ≡ Some s.align
  pub offset_is : with_both round_up (option_or attribute align) from ≡ Some s.offset

-- ---- tables

-- each record stands where it stood
abbrev pub Keeps : List Node → List Node → Type 0
Keeps old new = (k : ℕ) (r : Node) → slice_get old k ≡ Some r → slice_get new k ≡ Some r

-- the record of the number is of a type that has a table
pub record IsTyped (nodes : List Node) (number : ℕ) : Type 0 where
  pub ty : Ty
  pub host : IsTrue (has_nodes ty)
  pub is : IsNodeOf nodes number ty

-- the table has grown by what a record of the type leads to, and by nothing else, each record once as a child; the
-- record itself has no offset yet
pub record IsAdded (old new : List Node) (r : Node) (t : Ty) : Type 0 where
  pub host : IsTrue (has_nodes t)
  pub place : r.offset ≡ 0
  pub describes : Describes new (length old) r t
  pub longer : length old ≤ length new
  pub kept : Keeps old new
  pub each : (number : ℕ) → length old ≤ number → number < length new → IsTyped new number
  pub children : (sum_by children_counted new + children_counted r) + length old ≡ sum_by children_counted old + length new
  pub exact : r ≡ node_of t (length old)
  pub grown : new ≡ old ++ below (length old) t
