use Rattle.std.proofs.Common.{◌≡◌, ◌+◌, ◌*◌, drop}
use Rattle.wgsl_nodes.specs.Numbers.{written_row}
use Rattle.wgsl_nodes.proofs.numbers.write_row.Given as goal

abbrev pub invariant-loop-i : goal.invariant-loop-i
invariant-loop-i l = written_row l.bytes (l.at + l.i * l.width) l.width (drop l.i l.numbers) ≡ written_row l.initial.bytes l.at l.width l.numbers
