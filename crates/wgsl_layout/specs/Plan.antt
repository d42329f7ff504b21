-- Where the parts of the values of a type stand, as the code keeps it: the layout of the type without counts and
-- types, and with the lengths of structures alone (WGSL: internal layout of values; structure member layout).
use Rattle.std.specs.Prelude.{ℕ, List, [], ◌∷◌, map, Option, Some, if◌then◌else◌}
use Rattle.wgsl_rules.specs.Types.{Ty, struct, array, vec, mat, Fields, no_fields, field}
use Rattle.wgsl_rules.specs.Size.{offset_after, end_after, extent_in}
use Rattle.wgsl_rules.specs.Layout.{amount, size, align, stride, has_fixed_layout}
use Rattle.wgsl_layout.specs.declared.plan.Plan.{«Plan» as CodePlan}
use Rattle.wgsl_layout.specs.declared.plan.Place.{«Place» as CodePlace}
use Rattle.wgsl_layout.specs.declared.plan.Plan.TheOpen.{Plan-F, Place-F}
use Rattle.wgsl_layout.specs.declared.plan.Plan.TheFolds.{fold-Plan, fold-Place}

mutual
  pub data Plan : Type 0 where
    scalar : Plan
    -- of a vector, so far apart
    components : ℕ → Plan
    -- parts alike, so far apart
    row : ℕ → Plan → Plan
    -- of a structure: how many bytes it takes where its type tells that, else 0
    members : ℕ → Places → Plan

  -- each where it stands
  pub data Places : Type 0 where
    no_places : Places
    place : ℕ → Plan → Places → Places

-- how many bytes the values of a type take, where it tells that, else 0
abbrev pub fixed_size : Ty → ℕ
fixed_size t = if has_fixed_layout t then size t else 0

abbrev mutual
  pub plan_of : Ty → Plan
  plan_of (vec n t) = components (size t)
  plan_of (mat c r t) = row (align (vec r t)) (components (size t))
  plan_of (array t n) = row (stride t) (plan_of t)
  plan_of (struct name fs) = members (fixed_size (struct name fs)) (places_of (Some 0) fs)
  plan_of t = scalar

  -- of the members, of which the first stands after `from`
  pub places_of : Option ℕ → Fields → Places
  places_of from no_fields = no_places
  places_of from (field name t s a fs) = place (amount (offset_after from (extent_in t s a))) (plan_of t) (places_of (end_after from (extent_in t s a)) fs)

-- ---- what the code holds

pub record Placed : Type 0 where
  pub offset : ℕ
  pub plan : Plan

abbrev pub places_from : List Placed → Places
places_from [] = no_places
places_from (p ∷ ps) = place p.offset p.plan (places_from ps)

abbrev pub plan_step : Plan-F Plan Placed → Plan
plan_step Plan-F.Scalar = scalar
plan_step (Plan-F.Components far) = components far
plan_step (Plan-F.Row far part) = row far part.value
plan_step (Plan-F.Members len ps) = members len (places_from ps.items)

abbrev pub place_step : Place-F Plan Placed → Placed
place_step p = record { offset = p.offset; plan = p.plan }

abbrev pub plan_view : CodePlan → Plan
plan_view = fold-Plan Plan Placed plan_step place_step

abbrev pub place_view : CodePlace → Placed
place_view = fold-Place Plan Placed plan_step place_step

abbrev pub places_view : List CodePlace → Places
places_view ps = places_from (map place_view ps)
