-- Copies of parts over parts, in cells of bytes (WGSL: assignment statement; internal layout of values).
use Rattle.std.specs.Prelude.{◌≡◌, Bool, true, false, List}
use Rattle.wgsl_rules.specs.Paths.{put_viewed, viewed}
use Rattle.wgsl_rules.specs.Values.{Step, Val}
use Rattle.wgsl_layout.specs.Fitting.{FitsAt}
use Rattle.wgsl_layout.specs.declared.in_place.InPlace.{InPlace}
use Rattle.wgsl_layout.specs.declared.in_place.InPlace.TheVariants as in_place

-- w is put in the place that the steps lead to, where both cells are bytes and it fits there; else nothing changes
abbrev pub IsCopied : InPlace → Bool → Val → Val → List Step → Val → Type 0
IsCopied in_place.Done both before after steps w = (both ≡ true) × FitsAt w (viewed steps before) × (after ≡ put_viewed steps w before)
IsCopied in_place.Misfit both before after steps w = (both ≡ true) × (¬ FitsAt w (viewed steps before)) × (after ≡ before)
IsCopied in_place.NotBytes both before after steps w = (both ≡ false) × (after ≡ before)
