-- The order of declarations.
use Rattle.std.specs.Prelude.{◌≡◌, ℕ, ◌==◌, nat_lt, Option, Some, List, count_by, if◌then◌else◌}
use Rattle.wgsl_source.specs.declared.places.Mark.{Mark}
use Rattle.wgsl_source.specs.declared.places.Mark.TheVariants.{Done}

-- how often a number stands in a list
abbrev pub times_in : ℕ → List ℕ → ℕ
times_in number numbers = count_by (λ n. n == number) numbers

-- each number below `count` stands in it once, and no other number does
abbrev pub IsOrderOf : List ℕ → ℕ → Type 0
IsOrderOf numbers count = (number : ℕ) → times_in number numbers ≡ (if nat_lt number count then 1 else 0)

-- how many places a declaration with this mark has
abbrev pub places_with : Option Mark → ℕ
places_with (Some Done) = 1
places_with mark = 0
