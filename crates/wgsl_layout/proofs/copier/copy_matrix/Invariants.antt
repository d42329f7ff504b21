use Rattle.std.proofs.Common.{◌≡◌, ◌+◌, ◌*◌, ◌<◌, ℕ, length}
use Rattle.wgsl_rules.specs.Layout.{layout}
use Rattle.wgsl_rules.specs.Types.{vec}
use Rattle.wgsl_rules.specs.View.{type_view}
use Rattle.wgsl_layout.specs.Plan.{plan_view}
use Rattle.wgsl_layout.specs.Reading.{IsThere}
use Rattle.wgsl_layout.proofs.Copying.{rest_of_row, whole_row}
use Rattle.wgsl_layout.proofs.copier.copy_matrix.Given as goal

abbrev pub invariant-loop-i : goal.invariant-loop-i
invariant-loop-i l =
    record {
      inside : (i : ℕ) → i < l.len → IsThere 0 (vec l.rows (type_view l.component)) (plan_view l.column.value) (l.at + i * l.far) (length l.bytes);
      room : (i : ℕ) → i < l.len → IsThere 0 (vec l.rows (type_view l.component)) (plan_view l.column.value) (l.base + i * l.far) (length l.out);
      rest : rest_of_row l.bytes l.at l.far l.len (layout 0 (vec l.rows (type_view l.component))) (plan_view l.column.value) l.i l.base l.out
          ≡ whole_row l.bytes l.at l.far l.len (layout 0 (vec l.rows (type_view l.component))) (plan_view l.column.value) l.base l.fn.out;
    }
