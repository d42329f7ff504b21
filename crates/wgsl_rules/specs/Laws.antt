-- Laws of views, of paths and of what stands at them, and of conversions.
use Rattle.std.specs.Prelude.{◌≡◌, ℕ, ℤ, List, Option, None, option_map, ◌++◌, Ok, Err, Some, IsTrue, ◌↔◌, IfOk, MatchResult, IsSomeAnd}
use Rattle.wgsl_rules.specs.Converted.{converted, inner_converted}
use Rattle.wgsl_rules.specs.TypeParts.{inner_type}
use Rattle.wgsl_rules.specs.Types.{Ty}
use Rattle.wgsl_rules.specs.Values.{Step, Val, number, type_of, IsWellFormed}
use Rattle.wgsl_rules.specs.Paths.{value_at, path_of, viewed, put_tree, FitsPlace, fits}

-- a view leads to the value at its path, and is refused where it has no path
abbrev pub ViewsLeadAlongTheirPaths : Type 0
ViewsLeadAlongTheirPaths = (steps : List Step) (v : Val)
    → MatchResult (path_of steps v) (λ p. IsSomeAnd (value_at p v) (λ x. viewed steps v ≡ Ok x)) (λ e. viewed steps v ≡ Err e)

-- `fits` tests whether a value fits the place of another
abbrev pub FitsTestsThePlace : Type 0
FitsTestsThePlace = (w v : Val) → IsTrue (fits w v) ↔ FitsPlace w v

-- q is p, or goes on from it
abbrev pub Begins : List ℕ → List ℕ → Type 0
Begins p q = (r : List ℕ) × (p ++ r ≡ q)

-- neither path begins the other
abbrev pub Apart : List ℕ → List ℕ → Type 0
Apart p q = (Begins p q → ⊥) × (Begins q p → ⊥)

-- what is put at the path of a view stands there, and the values at paths apart from it stay
abbrev pub APutIsHeld : Type 0
APutIsHeld = (steps : List Step) (w v : Val)
    → IfOk (path_of steps v) (λ p. (value_at p (put_tree p w v) ≡ Some w) × ((q : List ℕ) → Apart p q → value_at q (put_tree p w v) ≡ value_at q v))

-- the number that a value is, of whatever kind
abbrev pub number_of : Val → Option ℤ
number_of (number k z) = Some z
number_of v = None

-- what a value is in another type has the same paths, and the same numbers at them
abbrev pub ConversionsKeepNumbers : Type 0
ConversionsKeepNumbers = (v w : Val) (t : Ty) (p : List ℕ) → converted v t ≡ Some w
    → option_map number_of (value_at p w) ≡ option_map number_of (value_at p v)

-- what a value is with its inner type replaced has the type inside that was asked
abbrev pub InnerConversionsGiveTheirType : Type 0
InnerConversionsGiveTheirType = (v w : Val) (t : Ty) → IsWellFormed v → inner_converted v t ≡ Some w → inner_type (type_of w) ≡ t
