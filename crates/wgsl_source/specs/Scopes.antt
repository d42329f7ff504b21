-- The names that a function declares (WGSL: declaration and scope).
use Rattle.std.specs.Prelude.{◌≡◌, ◌⊎◌, ℕ, true, Contains}
use Rattle.std.specs.BTreeSet.{contains}
use Rattle.std.specs.Ordering.{nat_cmp}
use Rattle.wgsl_source.specs.declared.scopes.Scopes.{Scopes}

-- the name of the declaration stands for another one, or will where the statement ends
abbrev pub IsKnown : Scopes → ℕ → Type 0
IsKnown s n = (contains nat_cmp s.hidden n ≡ true) ⊎ Contains s.waiting.items n
