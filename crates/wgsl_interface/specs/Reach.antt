-- Which declarations one reaches by those that it names (WGSL: statically accessed). Declarations go by numbers.
use Rattle.std.specs.Prelude.{ℕ, List, [], slice_index_or}
use Rattle.std.specs.List.{Contains}

-- a declaration names another: `uses` has for each the numbers of those that it names
abbrev pub Names : List (List ℕ) → ℕ → ℕ → Type 0
Names uses one other = Contains (slice_index_or uses one []) other

-- it is that declaration, or one that is reached names it
pub data Reaches (uses : List (List ℕ)) (from : ℕ) : ℕ → Type 0 where
  itself : Reaches uses from from
  named : {one other : ℕ} → Reaches uses from one → Names uses one other → Reaches uses from other
