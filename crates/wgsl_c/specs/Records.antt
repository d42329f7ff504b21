-- The records of a type that are handed out, and numbers and places that may be none.
use Rattle.std.specs.Prelude.{ℕ, ◌+◌, ◌^◌, ◌≤◌, List, [], ◌≡◌, ◌⊎◌, Option, Some, None, IfSome, MatchOption}
use Rattle.wgsl_rules.specs.Types.{Ty}
use Rattle.wgsl_nodes.specs.Compare.{AreSame, IsFirstDifference}
use Rattle.wgsl_nodes.specs.Paths.{IsLed}
use Rattle.wgsl_nodes.specs.Places.{IsPartAlong, IsPartAt, Part}
use Rattle.wgsl_nodes.specs.declared.compare.Difference.{Difference}
use Rattle.wgsl_nodes.specs.declared.nodes.Node.{Node}
use Rattle.wgsl_nodes.specs.declared.places.Place.{Place}
use Rattle.wgsl_eval.specs.declared.settings.Settings.{Settings}
use Rattle.wgsl_report.specs.Records.{IsLayoutOf, IsTypeOf}
use Rattle.wgsl_c.specs.Asked.{AreSettings}
use Rattle.wgsl_c.specs.declared.nodes.Number.{Number}
use Rattle.wgsl_c.specs.declared.nodes.TheConstants.{NOWHERE}

-- those of the type that a text is in the module of a source, by the settings of these numbers
abbrev pub IsTableOf : List ℕ → List ℕ → ℕ → ℕ → List Node → Type 0
IsTableOf source text stage flags nodes = (settings : Settings) × AreSettings stage flags settings × ((t : Ty) × IsTypeOf source text settings t × IsLayoutOf t nodes)

-- the same, or none
abbrev pub AreRecords : List ℕ → List ℕ → ℕ → ℕ → List Node → Type 0
AreRecords source text stage flags nodes = (nodes ≡ []) ⊎ IsTableOf source text stage flags nodes

-- a number, where there is one
abbrev pub number_or_none : Option ℕ → Number
number_or_none None = record { bits = 0; is_there = 0; spare = 0 }
number_or_none (Some n) = record { bits = n; is_there = 1; spare = 0 }

-- a place, or nowhere
abbrev pub place_or_nowhere : Option Place → Place
place_or_nowhere None = record { offset = 0; node = NOWHERE; kind = 0; count = 0; spare = 0 }
place_or_nowhere (Some place) = place

-- a difference, whose field counts from 1, or none
abbrev pub difference_or_none : Option Difference → Difference
difference_or_none None = record { of_first = 0; of_second = 0; what = 0 }
difference_or_none (Some d) = record d { what = d.what + 1 }

-- what is found for a part in what begins at the offset: its place, or nowhere where there is none or where it begins at
-- 2 ^ 64 or behind
abbrev pub IsFoundAt : List Node → ℕ → Option Part → Place → Type 0
IsFoundAt nodes offset part place = (found : Option Place) × IsPartAt nodes offset part found × (place ≡ place_or_nowhere found)

-- the place that the text leads to from there, or nowhere
abbrev pub LeadsTo : List Node → List ℕ → ℕ → Place → List ℕ → Place → Type 0
LeadsTo nodes names len from text place =
    (found : Option Place) × IsLed nodes names len from text found × (place ≡ place_or_nowhere found)

-- a place that is found along a path in a value of the type is that of a part of it
abbrev pub IsFoundAlong : List Node → ℕ → Ty → Place → Type 0
IsFoundAlong nodes len t place = (found : Option Place) × IfSome found (IsPartAlong nodes len 0 t) × (place ≡ place_or_nowhere found)

-- the number, or none where it is 2 ^ 64 or more
abbrev pub IsLengthOf : ℕ → Number → Type 0
IsLengthOf n answer = (found : Option ℕ) × MatchOption found (2 ^ 64 ≤ n) (λ m. m ≡ n) × (answer ≡ number_or_none found)

-- two tables are the same but for names, or this is the first difference
abbrev pub AreCompared : List Node → List Node → Difference → Type 0
AreCompared a b answer =
    (found : Option Difference) × MatchOption found (AreSame a b) (IsFirstDifference a b) × (answer ≡ difference_or_none found)
