-- A search for what a declaration reaches, with a mark for each that is.
use Rattle.std.specs.Prelude.{◌≡◌, ℕ, ◌++◌, List, [], ◌∷◌, Option, Some, Bool, true, false, slice_get, slice_set, if◌then◌else◌}

abbrev pub IsMarked : List Bool → ℕ → Type 0
IsMarked marks n = slice_get marks n ≡ Some true

abbrev pub is_unmarked : Option Bool → Bool
is_unmarked (Some false) = true
is_unmarked mark = false

-- the marks with those of these declarations
abbrev pub marked : List Bool → List ℕ → List Bool
marked marks [] = marks
marked marks (n ∷ ns) = marked (slice_set marks n true) ns

-- the declarations whose uses are not looked at, with those of these that have no mark
abbrev pub pending_after : List Bool → List ℕ → List ℕ → List ℕ
pending_after marks pending [] = pending
pending_after marks pending (n ∷ ns) = pending_after (slice_set marks n true) (if is_unmarked (slice_get marks n) then pending ++ n ∷ [] else pending) ns
