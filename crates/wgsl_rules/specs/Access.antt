-- What an access mode lets a reference do (WGSL: memory access mode).
use Rattle.std.specs.Prelude.{Bool, true, false}
use Rattle.wgsl_rules.specs.declared.syntax.AccessMode.{AccessMode}
use Rattle.wgsl_rules.specs.declared.syntax.AccessMode.TheVariants as mode

abbrev pub can_read : AccessMode → Bool
can_read mode.Read = true
can_read mode.Write = false
can_read mode.ReadWrite = true

abbrev pub can_write : AccessMode → Bool
can_write mode.Read = false
can_write mode.Write = true
can_write mode.ReadWrite = true
