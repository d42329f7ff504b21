-- Where the structures of a value that is read take their types from, for the contracts of the code that reads (WGSL:
-- structure types).
use Rattle.std.specs.Prelude.{◌≡◌, ℕ, List, [], ◌∷◌}
use Rattle.wgsl_rules.specs.Types.{Ty}
use Rattle.wgsl_rules.specs.Values.{Val}
use Rattle.wgsl_rules.specs.Layout.{layout}
use Rattle.wgsl_values.specs.View.{value_of}
use Rattle.wgsl_values.specs.declared.instance.Instance.{Instance}
use Rattle.wgsl_layout.specs.Buffers.{decoded}
use Rattle.wgsl_layout.specs.declared.types.Types.{Types}
use Rattle.wgsl_layout.specs.declared.types.Types.TheVariants as types

-- some bytes lay out the value, of the type and with n elements in the runtime-sized array that it is or ends in
pub record WasRead (n : ℕ) (t : Ty) (v : Val) : Type 0 where
  pub bytes : List ℕ
  pub at : ℕ
  pub is : v ≡ decoded bytes at (layout n t)

-- a value whose structures share their types is such a value
abbrev pub Suits : Types → ℕ → Ty → Type 0
Suits (types.Of v) n t = WasRead n t (value_of v.now)
Suits s n t = Unit {0}

-- the first of the values is such a value
abbrev pub IsFirstRead : List Instance → ℕ → Ty → Type 0
IsFirstRead [] n t = Unit {0}
IsFirstRead (v ∷ vs) n t = WasRead n t (value_of v)
