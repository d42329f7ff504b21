-- Writes of the values that bytes lay out (WGSL: internal layout of values; assignment statement).
use Rattle.std.specs.Prelude.{◌≡◌, Bool, true, false, Option, None, IsSome, IsSomeAnd}
use Rattle.wgsl_rules.specs.Refusals.{Outcome}
use Rattle.wgsl_rules.specs.Values.{Val}
use Rattle.wgsl_layout.specs.Fitting.{FitsAt}
use Rattle.wgsl_layout.specs.declared.in_place.BytesWrite.{BytesWrite}
use Rattle.wgsl_layout.specs.declared.in_place.BytesWrite.TheVariants as bytes_write

-- what a write of the value that bytes lay out came to, in a place: whether it stands in bytes, whether it may be
-- written, and what it leads to. `put w` is all that is there with w in the place; where w is not put there, nothing
-- changes
abbrev pub CameTo : {C : Type 0} → BytesWrite → Bool → Bool → Outcome Val → (Val → C) → C → C → Option Val → Type 0
CameTo bytes_write.Done flat may place put before after laid = (flat ≡ true) × (may ≡ true) × IsSomeAnd laid (λ w. FitsAt w place × (after ≡ put w))
CameTo bytes_write.NoValue flat may place put before after laid = (flat ≡ true) × (laid ≡ None) × (after ≡ before)
CameTo bytes_write.NotWrite flat may place put before after laid = (flat ≡ true) × (may ≡ false) × IsSome laid × (after ≡ before)
CameTo bytes_write.Misfit flat may place put before after laid = (flat ≡ true) × (may ≡ true) × IsSomeAnd laid (λ w. ¬ FitsAt w place) × (after ≡ before)
CameTo bytes_write.NotBytes flat may place put before after laid = (flat ≡ false) × (after ≡ before)
