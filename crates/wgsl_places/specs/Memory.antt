-- Places in what references name, and the numbers that are loaded and stored there (WGSL: memory views; load rule;
-- assignment statement).
use Rattle.std.specs.Prelude.{ℕ, List, length, Option, Some, None, Bool, false, ◌==◌, ◌&&◌, IsOkAnd, IsSomeAnd, if◌then◌else◌, option_and_then}
use Rattle.std.specs.List.{list_all}
use Rattle.wgsl_rules.specs.Layout.{HasLayout, layout_of, type_in}
use Rattle.wgsl_rules.specs.Paths.{value_at}
use Rattle.wgsl_rules.specs.Same.{same}
use Rattle.wgsl_rules.specs.Types.{Ty, vec}
use Rattle.wgsl_rules.specs.Values.{Reference, Step, Val, type_of}
use Rattle.wgsl_store.specs.Memory.{held}
use Rattle.wgsl_layout.specs.Ranges.{Range, range_in, view_range}
use Rattle.wgsl_places.specs.Laws.{components_in, number_in}
use Rattle.wgsl_places.specs.Places.{IsPlace, takes}
use Rattle.wgsl_places.specs.declared.place.Place.{Place}

-- the place is that of the part at the path of x
abbrev pub IsPlaceAt : Ty → Val → List ℕ → Place → Type 0
IsPlaceAt t x path p = IsSomeAnd (range_in path (layout_of x)) (λ r. IsPlace t r p)

-- of some part of x, whose type has a layout
pub record IsPlaceIn (t : Ty) (x : Val) (p : Place) : Type 0 where
  pub laid : HasLayout (type_of x)
  pub path : List ℕ
  pub is : IsPlaceAt t x path p

-- of some part of what a reference names
abbrev pub IsPlaceOf : Ty → List Val → Reference → Place → Type 0
IsPlaceOf t cells r p = IsOkAnd (held cells r) (λ x. IsPlaceIn t x p)

-- the range of the part of x that a view leads to, where x is held as bytes
abbrev pub range_viewed : Bool → List Step → Val → Option Range
range_viewed flat steps x = if flat then view_range steps (layout_of x) else None

-- the number of the scalar or the atomic at the path of x, where it may be loaded
abbrev pub loaded_at : Bool → List ℕ → Val → Option Val
loaded_at may path x = if may then option_and_then number_in (value_at path x) else None

-- numbers of the type of w are held at the path of x
abbrev pub takes_at : List ℕ → Val → Val → Bool
takes_at path x w = elim (range_in path (layout_of x)) [ Some r ↦ takes (type_of w) r.layout | None ↦ false ]

-- ---- vectors

-- the components of the vector at the path of x, where they may be loaded
abbrev pub loaded_vec_at : Bool → List ℕ → Val → Option (List Val)
loaded_vec_at may path x = if may then option_and_then components_in (value_at path x) else None

-- the type of a vector of as many components, of the type that each of these has
abbrev pub is_vector_of : List Val → Ty → Bool
is_vector_of ws (vec n t) = length ws == n && list_all (λ w. same (type_of w) t) ws
is_vector_of ws t = false

-- a vector of such a type is held at the path of x
abbrev pub takes_vec_at : List ℕ → Val → List Val → Bool
takes_vec_at path x ws = elim (range_in path (layout_of x)) [ Some r ↦ is_vector_of ws (type_in r.layout) | None ↦ false ]
