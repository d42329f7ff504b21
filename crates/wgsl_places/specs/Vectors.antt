-- Vectors at places: the numbers that are loaded and stored in the parts of one (WGSL: internal layout of values; vector
-- types).
use Rattle.std.specs.Prelude.{ℕ, Option, Some, None, Bool, true, false, List, [], ◌∷◌, if◌then◌else◌, option_and_then}
use Rattle.wgsl_rules.specs.InCommon.{prepended}
use Rattle.wgsl_rules.specs.Layout.{Parts, no_parts, part, type_in}
use Rattle.wgsl_rules.specs.Types.{Ty, vec}
use Rattle.wgsl_rules.specs.Values.{Val}
use Rattle.wgsl_layout.specs.Ranges.{Range, further, parts_in}
use Rattle.wgsl_places.specs.Places.{loaded, stored}

abbrev pub is_vector : Ty → Bool
is_vector (vec n t) = true
is_vector t = false

-- the numbers of these parts of what begins at o
abbrev pub loaded_parts : List ℕ → ℕ → Parts → Option (List Val)
loaded_parts b o no_parts = Some []
loaded_parts b o (part from l ps) = prepended (loaded b (further o (record { start = from; layout = l }))) (loaded_parts b o ps)

-- the numbers of a vector's components
abbrev pub loaded_vec : List ℕ → Range → Option (List Val)
loaded_vec b r = if is_vector (type_in r.layout) then loaded_parts b r.start (parts_in r.layout) else None

-- the bytes after a number has been stored in each of these parts
abbrev pub stored_parts : List ℕ → ℕ → Parts → List Val → Option (List ℕ)
stored_parts b o no_parts [] = Some b
stored_parts b o (part from l ps) (w ∷ ws) = option_and_then (λ c. stored_parts c o ps ws) (stored b (further o (record { start = from; layout = l })) w)
stored_parts b o ps ws = None

-- after one has been stored in each component of a vector
abbrev pub stored_vec : List ℕ → Range → List Val → Option (List ℕ)
stored_vec b r ws = if is_vector (type_in r.layout) then stored_parts b r.start (parts_in r.layout) ws else None
