-- Values that are exchanged for what references name (WGSL: assignment statement).
use Rattle.std.specs.Prelude.{◌≡◌, List, Ok, Option, None, Some}
use Rattle.wgsl_rules.specs.Values.{Reference, Val}
use Rattle.wgsl_layout.specs.Fitting.{FitsAt}
use Rattle.wgsl_store.specs.Memory.{held, put_cells}
pub use Rattle.wgsl_layout.specs.Exchanges.{IsExchanged}

-- w is put in the place that a reference names, where it fits there, and what stood there is answered; else nothing is,
-- and nothing changes
abbrev pub AreExchanged : Option Val → List Val → List Val → Reference → Val → Type 0
AreExchanged (Some old) cells after r w = FitsAt w (held cells r) × (held cells r ≡ Ok old) × (after ≡ put_cells cells r w)
AreExchanged None cells after r w = (¬ FitsAt w (held cells r)) × (after ≡ cells)
