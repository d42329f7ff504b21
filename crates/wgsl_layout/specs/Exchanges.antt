-- Values that are exchanged for what stands in a place (WGSL: assignment statement).
use Rattle.std.specs.Prelude.{◌≡◌, List, Ok, Option, None, Some}
use Rattle.wgsl_rules.specs.Paths.{put_viewed, viewed}
use Rattle.wgsl_rules.specs.Values.{Step, Val}
use Rattle.wgsl_layout.specs.Fitting.{FitsAt}

-- w is put in the place that the steps lead to, where it fits there, and what stood there is answered; else nothing is,
-- and nothing changes
abbrev pub IsExchanged : Option Val → Val → Val → List Step → Val → Type 0
IsExchanged (Some old) before after steps w = FitsAt w (viewed steps before) × (viewed steps before ≡ Ok old) × (after ≡ put_viewed steps w before)
IsExchanged None before after steps w = (¬ FitsAt w (viewed steps before)) × (after ≡ before)
