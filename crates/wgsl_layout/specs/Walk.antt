-- The bytes of a value, put in their places one scalar after another, as a plan has them: for the contracts of the
-- code that writes, which no public call names.
use Rattle.std.specs.Prelude.{ℕ, ◌+◌, ◌≤◌, ℤ, List, [], ◌∷◌, map}
use Rattle.std.specs.List.{range_with_len}
use Rattle.wgsl_rules.specs.Kinds as kinds
use Rattle.wgsl_rules.specs.Kinds.{Kind, bytes_of}
use Rattle.wgsl_rules.specs.Values.{Val, number, record_of, array_of, vector, matrix, atomic_of, Vals, no_vals, val}
use Rattle.wgsl_rules.specs.Layout.{Leaf}
use Rattle.wgsl_layout.specs.Buffers.{byte_of}
use Rattle.wgsl_layout.specs.Ranges.{overwritten}
use Rattle.wgsl_layout.specs.Plan.{Plan, scalar, components, row, members, Places, no_places, place}

-- the bytes of a number of a kind, the lowest first
abbrev pub number_bytes : Kind → ℤ → List ℕ
number_bytes k z = map (byte_of z) (range_with_len 0 (bytes_of k))

-- b with the number of each leaf in its place, counted from o on
abbrev pub written_leaves : (List ℕ → ℤ) → List Leaf → ℕ → List ℕ → List ℕ
written_leaves num [] o b = b
written_leaves num (l ∷ ls) o b = written_leaves num ls o (overwritten b (o + l.offset) (number_bytes l.kind (num l.path)))

-- b with the scalars of a value, which begins at o
abbrev mutual
  pub put : Val → Plan → ℕ → List ℕ → List ℕ
  put (number k z) p o b = overwritten b o (number_bytes k z)
  put (atomic_of v) p o b = put v p o b
  put (vector vs) (components far) o b = put_row vs far scalar o b
  put (matrix vs) (row far p) o b = put_row vs far p o b
  put (array_of runtime vs) (row far p) o b = put_row vs far p o b
  put (record_of t vs) (members size ps) o b = put_members vs ps o b
  put v p o b = b

  -- of values so far apart, the first at o
  pub put_row : Vals → ℕ → Plan → ℕ → List ℕ → List ℕ
  put_row no_vals far p o b = b
  put_row (val v vs) far p o b = put_row vs far p (o + far) (put v p o b)

  -- of members in what begins at o
  pub put_members : Vals → Places → ℕ → List ℕ → List ℕ
  put_members no_vals ps o b = b
  put_members (val v vs) no_places o b = b
  put_members (val v vs) (place at p ps) o b = put_members vs ps o (put v p (o + at) b)

-- the plan is one of values of this form, and each scalar of a value that begins at o is laid out and stands inside
-- the first `len` bytes
abbrev mutual
  pub Stands : Val → Plan → ℕ → ℕ → Type 0
  Stands (number kinds.abstract_int z) p o len = ⊥
  Stands (number k z) p o len = o + bytes_of k ≤ len
  Stands (atomic_of v) p o len = Stands v p o len
  Stands (vector vs) (components far) o len = StandInRow vs far scalar o len
  Stands (matrix vs) (row far p) o len = StandInRow vs far p o len
  Stands (array_of runtime vs) (row far p) o len = StandInRow vs far p o len
  Stands (record_of t vs) (members size ps) o len = StandAsMembers vs ps o len
  Stands v p o len = ⊥

  pub StandInRow : Vals → ℕ → Plan → ℕ → ℕ → Type 0
  StandInRow no_vals far p o len = Unit {0}
  StandInRow (val v vs) far p o len = (o ≤ len) × Stands v p o len × StandInRow vs far p (o + far) len

  pub StandAsMembers : Vals → Places → ℕ → ℕ → Type 0
  StandAsMembers no_vals ps o len = Unit {0}
  StandAsMembers (val v vs) no_places o len = ⊥
  StandAsMembers (val v vs) (place at p ps) o len = (o + at ≤ len) × Stands v p (o + at) len × StandAsMembers vs ps o len
