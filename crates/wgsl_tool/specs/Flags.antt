-- The flags that ask for formats.
use Rattle.std.specs.Prelude.{ℕ, List, Option, Some, None, codes}
use Rattle.wgsl_report.specs.declared.format.Format.{Format}
use Rattle.wgsl_report.specs.declared.format.Format.TheVariants as formats

-- a table needs none
abbrev pub flag_of : Format → Option (List ℕ)
flag_of formats.Table = None
flag_of formats.Bytes = Some (codes "--bytes")
flag_of formats.Json = Some (codes "--json")
flag_of formats.Rust = Some (codes "--rust")
flag_of formats.Bytemuck = Some (codes "--rust=bytemuck")
flag_of formats.C = Some (codes "--c")
