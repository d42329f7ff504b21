use Rattle.std.proofs.Common.{◌≡◌, ◌+◌, ◌*◌, ◌<◌, ◌≤◌, ℕ, length}
use Rattle.wgsl_rules.specs.Layout.{leaf, scalar_kind, size}
use Rattle.wgsl_rules.specs.View.{type_view}
use Rattle.wgsl_layout.specs.Plan.{scalar}
use Rattle.wgsl_layout.proofs.Copying.{rest_of_row, whole_row}
use Rattle.wgsl_layout.proofs.copier.copy_vector.Given as goal

abbrev pub invariant-loop-i : goal.invariant-loop-i
invariant-loop-i l =
    record {
      inside : (i : ℕ) → i < l.len → l.at + i * l.far + size (type_view l.component) ≤ length l.bytes;
      room : (i : ℕ) → i < l.len → l.base + i * l.far + size (type_view l.component) ≤ length l.out;
      rest : rest_of_row l.bytes l.at l.far l.len (leaf (type_view l.component) (scalar_kind (type_view l.component))) scalar l.i l.base l.out
          ≡ whole_row l.bytes l.at l.far l.len (leaf (type_view l.component) (scalar_kind (type_view l.component))) scalar l.base l.fn.out;
    }
