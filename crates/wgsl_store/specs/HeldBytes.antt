-- The bytes of the parts that references name, as they stand in cells of bytes (WGSL: memory views; internal layout of
-- values).
use Rattle.std.specs.Prelude.{ℕ, List, Option, Some, None, Ok, option_and_then, slice_get, if◌then◌else◌}
use Rattle.wgsl_rules.specs.Layout.{has_layout}
use Rattle.wgsl_rules.specs.Refusals.{Outcome, and_then}
use Rattle.wgsl_rules.specs.Values.{Reference, Val, type_of}
use Rattle.wgsl_layout.specs.Buffers.{buffer}
use Rattle.wgsl_store.specs.Memory.{held}
use Rattle.wgsl_store.specs.ReferenceCalls.{read}

-- those of a part that holds x, in a cell that holds v: its buffer. A cell is no bytes where its value has no layout
abbrev pub bytes_at : Val → Val → Option (List ℕ)
bytes_at v x = if has_layout (type_of v) then Some (buffer x) else None

-- those of the part that a reference names, which holds x
abbrev pub held_bytes : List Val → Reference → Val → Option (List ℕ)
held_bytes cells r x = option_and_then (λ v. bytes_at v x) (slice_get cells r.cell)

-- those of the value that is read: leave to read is asked first
abbrev pub read_bytes : List Val → Reference → Outcome (Option (List ℕ))
read_bytes cells r = and_then (read (held cells) r) (λ x. Ok (held_bytes cells r x))
