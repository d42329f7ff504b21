use Rattle.std.proofs.Common.{◌≡◌, ◌+◌, ◌-◌, ◌*◌, ◌<◌, ℕ, length}
use Rattle.wgsl_rules.specs.Layout.{layout, repeated}
use Rattle.wgsl_rules.specs.Types.{vec}
use Rattle.wgsl_rules.specs.View.{type_view}
use Rattle.wgsl_values.specs.View.{vals_view}
use Rattle.wgsl_layout.specs.Buffers.{decoded_parts}
use Rattle.wgsl_layout.specs.Plan.{plan_view}
use Rattle.wgsl_layout.specs.Reading.{IsThere}
use Rattle.wgsl_layout.proofs.Reading.{join}
use Rattle.wgsl_layout.proofs.reader.read_matrix.Given as goal

abbrev pub invariant-loop-i : goal.invariant-loop-i
invariant-loop-i l =
    record {
      inside : (i : ℕ) → i < l.len → IsThere 0 (vec l.rows (type_view l.component)) (plan_view l.column.value) (l.base + i * l.far) (length l.bytes);
      rest : join (vals_view l.values.items) (decoded_parts l.bytes l.base (repeated (layout 0 (vec l.rows (type_view l.component))) l.far (l.i * l.far) (l.len - l.i)))
          ≡ decoded_parts l.bytes l.base (repeated (layout 0 (vec l.rows (type_view l.component))) l.far 0 l.len);
    }
