-- Numbers at places, and values of parts (WGSL: load rule; assignment statement).
use Rattle.std.specs.Prelude.{◌≡◌, ℕ, ℤ, Option, Some, None, Ok, true, List}
use Rattle.wgsl_rules.specs.Kinds.{Kind}
use Rattle.wgsl_rules.specs.Layout.{HasLayout, layout, type_in}
use Rattle.wgsl_rules.specs.Types.{Ty, atomic}
use Rattle.wgsl_rules.specs.Values.{Val, number, vector, atomic_of, AreLiterals}
use Rattle.wgsl_layout.specs.Buffers.{decoded}
use Rattle.wgsl_layout.specs.Layouts.{written_in}
use Rattle.wgsl_layout.specs.Ranges.{Range}
use Rattle.wgsl_values.specs.Iterators.{listed}
use Rattle.wgsl_values.specs.View.{vals_of}
use Rattle.wgsl_places.specs.Places.{is_inside, loaded, stored}
use Rattle.wgsl_places.specs.Vectors.{loaded_vec, stored_vec}

-- the number that a value is, or that an atomic holds
abbrev pub number_in : Val → Option Val
number_in (number k z) = Some (number k z)
number_in (atomic_of v) = Some v
number_in v = None

-- in bytes that hold the range, what is loaded is the number of the value that they lay out there
abbrev pub LoadsAreReads : Type 0
LoadsAreReads = (b : List ℕ) (r : Range) → is_inside b r ≡ true → loaded b r ≡ number_in (decoded b r.start r.layout)

-- the value of the type with this number
abbrev pub value_with : Ty → Val → Val
value_with (atomic t) w = atomic_of w
value_with t w = w

-- what is stored is what a write of the value makes, in the range of a type that has a layout
abbrev pub StoresAreWrites : Type 0
StoresAreWrites = (b after : List ℕ) (r : Range) (n : ℕ) (k : Kind) (z : ℤ) → HasLayout (type_in r.layout) → r.layout ≡ layout n (type_in r.layout)
    → stored b r (number k z) ≡ Some after → written_in b (value_with (type_in r.layout) (number k z)) r ≡ Ok after

-- ---- vectors

-- the components of a vector
abbrev pub components_in : Val → Option (List Val)
components_in (vector vs) = Some (listed vs)
components_in v = None

-- in bytes that hold the range of a type that has a layout, what is loaded are the components of the value that they lay
-- out there
abbrev pub VectorLoadsAreReads : Type 0
VectorLoadsAreReads = (b : List ℕ) (r : Range) (n : ℕ) → HasLayout (type_in r.layout) → r.layout ≡ layout n (type_in r.layout) → is_inside b r ≡ true
    → loaded_vec b r ≡ components_in (decoded b r.start r.layout)

-- and what is stored is what a write of the vector makes
abbrev pub VectorStoresAreWrites : Type 0
VectorStoresAreWrites = (b after : List ℕ) (r : Range) (n : ℕ) (ws : List Val) → HasLayout (type_in r.layout) → r.layout ≡ layout n (type_in r.layout) → AreLiterals (vals_of ws)
    → stored_vec b r ws ≡ Some after → written_in b (vector (vals_of ws)) r ≡ Ok after
