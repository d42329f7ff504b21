use Rattle.std.proofs.Common.{◌≡◌, ◌+◌, ◌-◌, ◌*◌, ◌<◌, ◌≤◌, ℕ, length}
use Rattle.wgsl_rules.specs.Layout.{leaf, scalar_kind, size, repeated}
use Rattle.wgsl_rules.specs.View.{type_view}
use Rattle.wgsl_values.specs.View.{vals_view}
use Rattle.wgsl_layout.specs.Buffers.{decoded_parts}
use Rattle.wgsl_layout.proofs.Reading.{join}
use Rattle.wgsl_layout.proofs.reader.read_vector.Given as goal

abbrev pub invariant-loop-i : goal.invariant-loop-i
invariant-loop-i l =
    record {
      inside : (i : ℕ) → i < l.len → l.base + i * l.far + size (type_view l.component) ≤ length l.bytes;
      rest : join (vals_view l.components.items) (decoded_parts l.bytes l.base (repeated (leaf (type_view l.component) (scalar_kind (type_view l.component))) l.far (l.i * l.far) (l.len - l.i)))
          ≡ decoded_parts l.bytes l.base (repeated (leaf (type_view l.component) (scalar_kind (type_view l.component))) l.far 0 l.len);
    }
