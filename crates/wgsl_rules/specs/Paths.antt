-- Where a part of a value is, and how a view leads there (WGSL: memory views; composite value
-- decomposition expressions).
use Rattle.std.specs.Prelude.{◌≡◌, ℕ, zero, suc, List, [], ◌∷◌, Bool, true, false, ◌&&◌, Option, Some, None, is_some, Ok, Err, option_and_then, option_map, bytes_eq, if◌then◌else◌}
use Rattle.wgsl_rules.specs.Same.{same}
use Rattle.wgsl_rules.specs.Types.{Ty, struct, Fields, no_fields, field}
use Rattle.wgsl_rules.specs.Values.{Step, member, index, Val, record_of, array_of, vector, matrix, Vals, no_vals, val, count, item, type_of}
use Rattle.wgsl_rules.specs.Refusals.{Refusal, component, not_indexable, out_of_bounds, Outcome, and_then}

-- the parts of a composite: members, elements, components, columns. No path enters an atomic, a
-- pointer or a reference
abbrev pub parts : Val → Vals
parts (record_of t vs) = vs
parts (array_of runtime vs) = vs
parts (vector vs) = vs
parts (matrix vs) = vs
parts v = no_vals

-- the value at a path, which names a part of a part by their positions
abbrev pub value_at : List ℕ → Val → Option Val
value_at [] v = Some v
value_at (i ∷ p) v = option_and_then (value_at p) (item i (parts v))

-- the position of the first member of a name
abbrev pub index_named : List ℕ → Fields → Option ℕ
index_named n no_fields = None
index_named n (field m t s a fs) = if bytes_eq m n then Some 0 else option_map (λ i. suc i) (index_named n fs)

abbrev pub index_in : List ℕ → Ty → Option ℕ
index_in n (struct s fs) = index_named n fs
index_in n t = None

-- a position, with the part that stands there
abbrev pub placed : ℕ → Vals → Option (ℕ × Val)
placed i vs = option_map (λ x. (i, x)) (item i vs)

-- the member of a name: structs alone have members
abbrev pub member_named : List ℕ → Val → Option (ℕ × Val)
member_named n (record_of t vs) = option_and_then (λ i. placed i vs) (index_in n t)
member_named n v = None

abbrev pub or_refused : {A : Type 0} → Option A → Refusal → Outcome A
or_refused None e = Err e
or_refused (Some x) e = Ok x

-- the part of an index, if it is below the count of the parts
abbrev pub within : ℕ → Ty → Vals → Outcome (ℕ × Val)
within i t vs = or_refused (placed i vs) (out_of_bounds i t (count vs))

-- arrays, vectors and matrices have indexed parts; a matrix has its columns
abbrev pub part_at : ℕ → Val → Outcome (ℕ × Val)
part_at i (array_of runtime vs) = within i (type_of (array_of runtime vs)) vs
part_at i (vector vs) = within i (type_of (vector vs)) vs
part_at i (matrix vs) = within i (type_of (matrix vs)) vs
part_at i v = Err (not_indexable (type_of v))

-- the part that a step leads to, with its position, or why there is none
abbrev pub stepped : Step → Val → Outcome (ℕ × Val)
stepped (member n) v = or_refused (member_named n v) (component (type_of v) n)
stepped (index i) v = part_at i v

-- the path along a view. The first step that does not resolve is refused, with the type of the
-- value that it was taken from
abbrev pub path_of : List Step → Val → Outcome (List ℕ)
path_of [] v = Ok []
path_of (s ∷ steps) v = and_then (stepped s v) (λ p. and_then (path_of steps p.1) (λ q. Ok (p.0 ∷ q)))

-- the value that a view leads to, refused where the view has no path
abbrev pub viewed : List Step → Val → Outcome Val
viewed [] v = Ok v
viewed (s ∷ steps) v = and_then (stepped s v) (λ p. viewed steps p.1)

-- ---- a part replaced

abbrev pub replace_item : ℕ → (Val → Val) → Vals → Vals
replace_item i f no_vals = no_vals
replace_item zero f (val v vs) = val (f v) vs
replace_item (suc i) f (val v vs) = val v (replace_item i f vs)

abbrev pub with_parts : Val → Vals → Val
with_parts (record_of t vs) ws = record_of t ws
with_parts (array_of runtime vs) ws = array_of runtime ws
with_parts (vector vs) ws = vector ws
with_parts (matrix vs) ws = matrix ws
with_parts v ws = v

-- v with w in the place of the part at the path
abbrev pub put_tree : List ℕ → Val → Val → Val
put_tree [] w v = w
put_tree (i ∷ p) w v = with_parts v (replace_item i (put_tree p w) (parts v))

-- v with w in the place of what the view leads to; v itself where it leads nowhere
abbrev pub put_viewed : List Step → Val → Val → Val
put_viewed steps w v = elim (path_of steps v) [ Ok p ↦ put_tree p w v | Err e ↦ v ]

-- ---- when a value fits the place of another

-- the two have the same paths, and one type
abbrev pub FitsPlace : Val → Val → Type 0
FitsPlace w v = (type_of w ≡ type_of v) × ((p : List ℕ) → is_some (value_at p w) ≡ is_some (value_at p v))

abbrev pub has_none : Vals → Bool
has_none no_vals = true
has_none (val v vs) = false

abbrev mutual
  pub same_paths : Val → Val → Bool
  same_paths (record_of t vs) w = all_same_paths vs (parts w)
  same_paths (array_of runtime vs) w = all_same_paths vs (parts w)
  same_paths (vector vs) w = all_same_paths vs (parts w)
  same_paths (matrix vs) w = all_same_paths vs (parts w)
  same_paths v w = has_none (parts w)

  pub all_same_paths : Vals → Vals → Bool
  all_same_paths no_vals ws = has_none ws
  all_same_paths (val v vs) no_vals = false
  all_same_paths (val v vs) (val w ws) = same_paths v w && all_same_paths vs ws

-- the test of `FitsPlace`
abbrev pub fits : Val → Val → Bool
fits w v = same (type_of w) (type_of v) && same_paths w v
