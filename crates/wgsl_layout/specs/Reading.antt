-- What a walk over bytes that reads a value needs, and what it reads of the members of a structure.
use Rattle.std.specs.Prelude.{◌≡◌, ℕ, ◌+◌, ◌≤◌, false, List}
use Rattle.wgsl_rules.specs.Types.{Ty, Fields, no_fields, field}
use Rattle.wgsl_rules.specs.Values.{Vals, no_vals, val}
use Rattle.wgsl_rules.specs.Layout.{HasLayout, has_fixed_layout, layout, length_in}
use Rattle.wgsl_layout.specs.Buffers.{decoded}
use Rattle.wgsl_layout.specs.Plan.{Plan, plan_of, Places, no_places, place}

-- a value of the type t stands at `at` of `len` bytes, with n elements in the runtime-sized array that t is or
-- ends in, and the plan is that of t
pub record IsThere (n : ℕ) (t : Ty) (plan : Plan) (at len : ℕ) : Type 0 where
  pub laid : HasLayout t
  pub counted : has_fixed_layout t ≡ false → 1 ≤ n
  pub planned : plan ≡ plan_of t
  pub inside : at + length_in (layout n t) ≤ len

-- so does each of the members, from the start of their structure on
abbrev pub AreThere : ℕ → Fields → Places → ℕ → ℕ → Type 0
AreThere n no_fields no_places base len = Unit {0}
AreThere n (field name t s a fs) (place offset plan ps) base len = IsThere n t plan (base + offset) len × AreThere n fs ps base len
AreThere n fs ps base len = ⊥

-- the members at their places
abbrev pub members_at : List ℕ → ℕ → ℕ → Fields → Places → Vals
members_at b base n (field name t s a fs) (place offset plan ps) = val (decoded b (base + offset) (layout n t)) (members_at b base n fs ps)
members_at b base n fs ps = no_vals
