-- How many elements arrays in cells have (WGSL: array types; array builtin functions).
use Rattle.std.specs.Prelude.{ℕ, List, Option, option_and_then}
use Rattle.std.specs.Result.{result_ok}
use Rattle.wgsl_rules.specs.Values.{Reference, Val}
use Rattle.wgsl_store.specs.Memory.{held}
pub use Rattle.wgsl_layout.specs.Arrays.{elements_in}

-- how many elements the array has that a reference names, if it names one
abbrev pub element_count : List Val → Reference → Option ℕ
element_count cells r = option_and_then elements_in (result_ok (held cells r))
