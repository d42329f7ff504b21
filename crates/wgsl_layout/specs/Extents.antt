-- What tells how many bytes the values of a type take, for the contracts of the code (WGSL: alignment and size; buffer
-- binding determines runtime-sized array element count).
use Rattle.std.specs.Prelude.{◌≡◌, ℕ, Option, Some, None, option_map}
use Rattle.wgsl_rules.specs.Types.{Ty}
use Rattle.wgsl_rules.specs.Layout.{Tail, size, stride, tail_of}
use Rattle.wgsl_layout.specs.Plan.{Plan, row, members, Places, no_places, place}
use Rattle.wgsl_layout.specs.declared.extent.Extent.{Extent}
use Rattle.wgsl_layout.specs.declared.extent.Extent.TheVariants as extents
use Rattle.wgsl_layout.specs.declared.extent.Tail.{Tail as CodeTail}

-- a runtime-sized array as the code keeps it: its stride in the place of the type of its elements
abbrev pub kept : Tail → CodeTail
kept r = record { start = r.start; stride = stride r.element }

-- the type tells it and has no such array, or the elements of that array do
abbrev pub IsExtentOf : Ty → Extent → Type 0
IsExtentOf t (extents.Fixed n) = (n ≡ size t) × (tail_of t ≡ None)
IsExtentOf t (extents.Open tail) = option_map kept (tail_of t) ≡ Some tail

-- ---- by a plan

-- an array that begins at `start`
abbrev pub row_tail : ℕ → Plan → Option CodeTail
row_tail start (row far p) = Some (record { start = start; stride = far })
row_tail start p = None

-- the last of the places, where that is an array
abbrev pub last_tail : Option CodeTail → Places → Option CodeTail
last_tail found no_places = found
last_tail found (place o p ps) = last_tail (row_tail o p) ps

abbrev pub plan_tail : Plan → Option CodeTail
plan_tail (members len ps) = last_tail None ps
plan_tail p = row_tail 0 p

abbrev pub no_tail : CodeTail
no_tail = record { start = 0; stride = 0 }
