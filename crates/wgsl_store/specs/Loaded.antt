-- Values that are loaded and then converted (WGSL: load rule; feasible automatic conversions).
use Rattle.std.specs.Prelude.{Option, Some, None, Ok}
use Rattle.wgsl_rules.specs.Converted.{converted}
use Rattle.wgsl_rules.specs.Types.{Ty}
use Rattle.wgsl_rules.specs.Values.{Reference, Val, reference}
use Rattle.wgsl_rules.specs.Refusals.{Outcome, and_then}
use Rattle.wgsl_store.specs.ReferenceCalls.{loaded}

-- the reference that a value is
abbrev pub as_reference : Val → Option Reference
as_reference (reference r) = Some r
as_reference v = None

-- what a value, loaded, is in a type
abbrev pub loaded_in : (Reference → Outcome Val) → Ty → Val → Outcome (Option Val)
loaded_in holds t v = and_then (loaded holds v) (λ w. Ok (converted w t))
