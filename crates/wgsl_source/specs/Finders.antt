-- What is found while the tokens of a function are looked at, one after the other.
use Rattle.std.specs.Prelude.{◌≡◌, ◌⊎◌, ◌||◌, ℕ, Bool, true, List, codes}
use Rattle.std.specs.BTreeSet.{contains}
use Rattle.std.specs.Ordering.{nat_cmp}
use Rattle.wgsl_source.specs.Scopes.{IsKnown}
use Rattle.wgsl_source.specs.Uses.{IsDeclaring, IsFunction, IsLookedUp, IsShadowed, IsUse, IsUsed, name_of, stands}
use Rattle.wgsl_source.specs.declared.expression.Step.{Step}
use Rattle.wgsl_source.specs.declared.uses.Finder.{Finder}

abbrev pub has_found : Finder → ℕ → Bool
has_found f n = contains nat_cmp f.found n

-- the same, and what was found before is found
pub record IsFinderBehind (f g : Finder) : Type 0 where
  pub reading : g.reading.now ≡ f.reading.now
  pub scopes : g.scopes ≡ f.scopes
  pub body : g.in_body ≡ f.in_body
  pub kept : (n : ℕ) → has_found f n ≡ true → has_found g n ≡ true

-- with what steps look up
pub record HasAdded (f : Finder) (steps : List Step) (g : Finder) : Type 0 where
  pub same : IsFinderBehind f g
  pub found : (n : ℕ) → IsLookedUp f.reading.now steps n → has_found g n ≡ true
  pub named : (n : ℕ) → has_found g n ≡ true → (has_found f n ≡ true) ⊎ IsLookedUp f.reading.now steps n

-- what a token adds
pub record IsStepOf (at : ℕ) (f g : Finder) : Type 0 where
  pub reading : g.reading.now ≡ f.reading.now
  pub kept : (n : ℕ) → has_found f n ≡ true → has_found g n ≡ true
  pub found : (n : ℕ) → has_found g n ≡ true → (has_found f n ≡ true) ⊎ IsUse f.reading.now f.in_body at n
  pub known : (n : ℕ) → IsKnown g.scopes n → IsKnown f.scopes n ⊎ IsDeclaring f.reading.now f.in_body at n
  pub used : (n : ℕ) → IsUse f.reading.now f.in_body at n → (has_found g n ≡ true) ⊎ IsKnown f.scopes n

pub record IsStep (at : ℕ) (f g : Finder) : Type 0 where
  pub step : IsStepOf at f g
  pub body : g.in_body ≡ (f.in_body || stands f.reading.now at (codes "{"))

-- what is found behind the name of a function: what is used, but for what the function declares too
pub record HasFound (f : Finder) (name end : ℕ) (g : Finder) : Type 0 where
  pub reading : g.reading.now ≡ f.reading.now
  pub kept : (n : ℕ) → has_found f n ≡ true → has_found g n ≡ true
  pub found : (n : ℕ) → has_found g n ≡ true → (has_found f n ≡ true) ⊎ IsUsed f.reading.now name end n
  pub used : (n : ℕ) → IsUsed f.reading.now name end n → ¬ IsShadowed f.reading.now name end n → has_found g n ≡ true

-- what is found of a declaration that is a function; of another one nothing is
pub record HasFoundIn (f : Finder) (number end : ℕ) (g : Finder) : Type 0 where
  pub reading : g.reading.now ≡ f.reading.now
  pub kept : (n : ℕ) → has_found f n ≡ true → has_found g n ≡ true
  pub found : (n : ℕ) → has_found g n ≡ true
      → (has_found f n ≡ true) ⊎ (IsFunction f.reading.now number × IsUsed f.reading.now (name_of f.reading.now number) end n)
  pub used : (n : ℕ) → IsFunction f.reading.now number → IsUsed f.reading.now (name_of f.reading.now number) end n
      → ¬ IsShadowed f.reading.now (name_of f.reading.now number) end n → has_found g n ≡ true
