-- The places of parts in bytes that hold a value of a type, and the numbers that are loaded and stored there (WGSL:
-- internal layout of values; memory views).
use Rattle.std.specs.Prelude.{◌≡◌, ℕ, ◌+◌, ◌<◌, ◌^◌, Option, Some, None, Ok, Err, Bool, false, List, length, nat_le, ◌&&◌, if◌then◌else◌, IsSomeAnd}
use Rattle.wgsl_rules.specs.Layout.{HasLayout, Layout, scalar, composite, layout, length_in, type_in}
use Rattle.wgsl_rules.specs.Same.{same}
use Rattle.wgsl_rules.specs.Types.{Ty, atomic}
use Rattle.wgsl_rules.specs.Values.{Val, number, type_of}
use Rattle.wgsl_nodes.specs.Canonical.{table}
use Rattle.wgsl_nodes.specs.Places.{IsPlaceOf}
use Rattle.wgsl_layout.specs.Buffers.{buffer, read_number}
use Rattle.wgsl_layout.specs.Layouts.{Answer}
use Rattle.wgsl_layout.specs.Ranges.{Range, overwritten}
use Rattle.wgsl_places.specs.declared.place.Place.{Place}

-- ---- places

-- the place is that of the part in this range, in a value of the type: it begins there, in the table of the type its
-- record is one of the part's type, and it knows how many elements a runtime-sized array has
pub record IsPlace (t : Ty) (r : Range) (p : Place) : Type 0 where
  pub at : IsPlaceOf (table t) r.start (type_in r.layout) p.at
  pub layout_is : r.layout ≡ layout p.elements (type_in r.layout)
  pub laid : HasLayout (type_in r.layout)
  pub below : r.start + length_in r.layout < 2 ^ 64

-- what is answered for a part: its place, or none where there is no part
abbrev pub ArePlaces : Ty → Option Range → Option Place → Type 0
ArePlaces t None result = result ≡ None
ArePlaces t (Some r) result = IsSomeAnd result (IsPlace t r)

-- the whole, with so many elements in a runtime-sized array
abbrev pub whole_of : Ty → ℕ → Range
whole_of t n = record { start = 0; layout = layout n t }

-- or why there is none
abbrev pub IsPlaceAnswer : Ty → Answer Range → Answer Place → Type 0
IsPlaceAnswer t (Ok r) (Ok p) = IsPlace t r p
IsPlaceAnswer t (Err e) (Err f) = f ≡ e
IsPlaceAnswer t a b = ⊥

-- ---- numbers

-- the range lies in the bytes
abbrev pub is_inside : List ℕ → Range → Bool
is_inside b r = nat_le (r.start + length_in r.layout) (length b)

-- the number of a scalar or an atomic that begins there
abbrev pub number_there : List ℕ → ℕ → Layout → Option Val
number_there b o (scalar t k) = Some (number k (read_number b o k))
number_there b o (composite t len ps) = None

abbrev pub loaded : List ℕ → Range → Option Val
loaded b r = if is_inside b r then number_there b r.start r.layout else None

-- the type of the number that an atomic holds, or a scalar is
abbrev pub number_type : Ty → Ty
number_type (atomic t) = t
number_type t = t

-- numbers of this type are held there
abbrev pub takes : Ty → Layout → Bool
takes u (scalar t k) = same u (number_type t)
takes u (composite t len ps) = false

-- the bytes after the number w has been stored in the range
abbrev pub stored : List ℕ → Range → Val → Option (List ℕ)
stored b r w = if is_inside b r && takes (type_of w) r.layout then Some (overwritten b r.start (buffer w)) else None
