-- Atomics in cells, and their numbers (WGSL: atomic types; atomic builtin functions).
use Rattle.std.specs.Prelude.{List, Option, option_and_then}
use Rattle.std.specs.Result.{result_ok}
use Rattle.wgsl_rules.specs.Values.{Reference, Val}
use Rattle.wgsl_store.specs.Memory.{held}
pub use Rattle.wgsl_layout.specs.Atomics.{IsAtomicOf, number_in}

-- the number of the atomic that a reference names, if it names one
abbrev pub atomic_number : List Val → Reference → Option Val
atomic_number cells r = option_and_then number_in (result_ok (held cells r))
