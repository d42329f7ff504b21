-- Numbers of scalars and atomics inside what references name (WGSL: memory views; atomic types; assignment statement).
use Rattle.std.specs.Prelude.{◌≡◌, ℕ, Bool, true, false, List, length, take, Option, Some, None, IsSomeAnd}
use Rattle.wgsl_rules.specs.Layout.{layout_of}
use Rattle.wgsl_rules.specs.Paths.{put_tree, value_at}
use Rattle.wgsl_rules.specs.Values.{Val, number, atomic_of, type_of}
use Rattle.wgsl_layout.specs.Buffers.{buffer}
use Rattle.wgsl_layout.specs.Ranges.{range_in}

-- a number of the type of w, or an atomic that holds one
abbrev pub IsLikeNumber : Val → Val → Type 0
IsLikeNumber w (number k z) = type_of w ≡ type_of (number k z)
IsLikeNumber w (atomic_of v) = type_of w ≡ type_of v
IsLikeNumber w v = ⊥

-- it with the number w in the place of its own
abbrev pub with_number : Val → Val → Val
with_number w (atomic_of v) = atomic_of w
with_number w v = w

-- such a one stands at the path of x, and begins so many bytes behind the first of x
pub record IsNumberAt (x : Val) (path : List ℕ) (at : ℕ) (w : Val) : Type 0 where
  pub there : IsSomeAnd (value_at path x) (IsLikeNumber w)
  pub begins : IsSomeAnd (range_in path (layout_of x)) (λ r. r.start ≡ at)

-- at some path
pub record HasNumberAt (x : Val) (at : ℕ) (w : Val) : Type 0 where
  pub path : List ℕ
  pub is : IsNumberAt x path at w

-- x with the number w in the scalar or the atomic at the path
abbrev pub number_put : List ℕ → Val → Val → Val
number_put path w x = elim (value_at path x) [ Some y ↦ put_tree path (with_number w y) x | None ↦ x ]

-- ---- bytes from a part on

-- in a cell of bytes they begin with the buffer of the part x; of another there are none
abbrev pub AreFrom : Bool → Val → Option (List ℕ) → Type 0
AreFrom flat x None = flat ≡ false
AreFrom flat x (Some b) = (flat ≡ true) × (take (length (buffer x)) b ≡ buffer x)
