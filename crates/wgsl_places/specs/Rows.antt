-- Vectors in what references name, as numbers side by side (WGSL: vector types; internal layout of values).
use Rattle.std.specs.Prelude.{◌≡◌, ℕ, ◌+◌, ◌*◌, List, [], ◌∷◌, ◌++◌, length, slice_get, Some, IfSome, option_and_then, option_map}
use Rattle.wgsl_rules.specs.Paths.{value_at}
use Rattle.wgsl_rules.specs.Values.{Val}
use Rattle.wgsl_layout.specs.NumbersIn.{IsNumberAt}
use Rattle.wgsl_places.specs.Laws.{components_in}

-- a vector of as many numbers like these stands at the path of x: the first begins so many bytes behind the first of x,
-- and each so far behind the last
pub record IsRow (x : Val) (path : List ℕ) (at far : ℕ) (ws : List Val) : Type 0 where
  pub many : option_map length (option_and_then components_in (value_at path x)) ≡ Some (length ws)
  pub each : (i : ℕ) → IfSome (slice_get ws i) (IsNumberAt x (path ++ i ∷ []) (at + i * far))

-- at some path
pub record HasRow (x : Val) (at far : ℕ) (ws : List Val) : Type 0 where
  pub path : List ℕ
  pub is : IsRow x path at far ws
