use Rattle.std.proofs.Common.{◌≡◌, ◌+◌, ◌*◌, drop, length, map}
use Rattle.wgsl_scalar.specs.Literals.{literal_of}
use Rattle.wgsl_values.specs.View.{vals_of}
use Rattle.wgsl_layout.specs.Plan.{scalar}
use Rattle.wgsl_layout.specs.Walk.{put_row, StandInRow}
use Rattle.wgsl_places.proofs.rows.put_row.Given as goal

abbrev pub invariant-loop-i : goal.invariant-loop-i
invariant-loop-i l = record {
  places : StandInRow (vals_of (map literal_of (drop l.i l.numbers))) l.width scalar (l.at + l.i * l.width) (length l.bytes);
  rest : put_row (vals_of (map literal_of (drop l.i l.numbers))) l.width scalar (l.at + l.i * l.width) l.bytes ≡ put_row (vals_of (map literal_of l.numbers)) l.width scalar l.at l.initial.bytes;
}
