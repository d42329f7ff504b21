-- The first difference of two tables.
use Rattle.std.specs.Prelude.{◌≡◌, ◌≢◌, ◌⊎◌, ℕ, ◌<◌, min, Option, Some, None, Bool, true, false, List, length, slice_get, ◌==◌, if◌then◌else◌}
use Rattle.wgsl_nodes.specs.declared.nodes.Node.{Node}
use Rattle.wgsl_nodes.specs.declared.compare.Difference.{Difference}

-- the field, if its numbers differ, else what comes behind it
abbrev pub unlike : ℕ → ℕ → ℕ → Option ℕ → Option ℕ
unlike what x y behind = if x == y then behind else Some what

-- the first field in which two records differ, but for the numbers of children and names
abbrev pub differs : Node → Node → Option ℕ
differs x y =
    unlike 0 x.sort y.sort (unlike 1 x.kind y.kind (unlike 5 x.count y.count (unlike 2 x.offset y.offset (unlike 6 x.stride y.stride (unlike 3 x.size y.size
    (unlike 4 x.align y.align (unlike 8 x.tail_start y.tail_start (unlike 9 x.tail_stride y.tail_stride None))))))))

abbrev pub child_differs : Node → Node → Option ℕ
child_differs x y = unlike 7 x.child y.child None

-- in the numbers of children, or in all else
abbrev pub differs_in : Bool → Node → Node → Option ℕ
differs_in true x y = child_differs x y
differs_in false x y = differs x y

-- records of one number, below this one, agree
abbrev pub AgreeBelow : Bool → List Node → List Node → ℕ → Type 0
AgreeBelow in_child a b n = (k : ℕ) (x y : Node) → k < n → slice_get a k ≡ Some x → slice_get b k ≡ Some y → differs_in in_child x y ≡ None

-- the records of this number are the first that differ, in this field
pub record DifferAt (in_child : Bool) (a b : List Node) (number what : ℕ) : Type 0 where
  pub of_first : Node
  pub of_second : Node
  pub first_there : slice_get a number ≡ Some of_first
  pub second_there : slice_get b number ≡ Some of_second
  pub differ : differs_in in_child of_first of_second ≡ Some what
  pub before : AgreeBelow in_child a b number

-- all but names is the same
pub record AreSame (a b : List Node) : Type 0 where
  pub lengths : length a ≡ length b
  pub fields : AgreeBelow false a b (length a)
  pub children : AgreeBelow true a b (length a)

-- one table has a record more, the other records agree
pub record HaveLengths (a b : List Node) (number what : ℕ) : Type 0 where
  pub differ : length a ≢ length b
  pub number_is : number ≡ min (length a) (length b)
  pub what_is : what ≡ 10
  pub fields : AgreeBelow false a b number
  pub children : AgreeBelow true a b number

abbrev pub IsFirstDifference : List Node → List Node → Difference → Type 0
IsFirstDifference a b d =
    (d.of_second ≡ d.of_first)
    × (DifferAt false a b d.of_first d.what ⊎ ((AgreeBelow false a b (min (length a) (length b)) × DifferAt true a b d.of_first d.what) ⊎ HaveLengths a b d.of_first d.what))
